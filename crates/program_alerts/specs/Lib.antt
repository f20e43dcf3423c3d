-- The program `alerts`, in reading order: what it prints, and the laws.
pub mod Output
pub mod OutputLaws
