-- The rows of a reference text, in reading order: an accepted text, the rows line by line, their laws, the contracts.
pub mod ReferenceText
pub mod Rows
pub mod ReferenceTextLaws
pub mod RowsLaws
pub mod Clauses
