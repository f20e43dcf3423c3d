-- Names as they are told, in reading order: escaped names; then what the functions promise, and the laws.
pub mod Name
pub mod Clauses
pub mod NameLaws
pub mod PutLaws
