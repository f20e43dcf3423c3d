-- The program `draw`, in reading order: what it prints; then the room for that, and the laws.
pub mod Output
pub mod Clauses
pub mod OutputLaws
