-- The program `plain`, in reading order: what it prints; then the room for that, labels as they are gathered, and the laws.
pub mod Output
pub mod Clauses
pub mod ContractLaws
pub mod OutputLaws
