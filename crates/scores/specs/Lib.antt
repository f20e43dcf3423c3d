-- e carried from move to move: what each function gives, and laws of it.
pub mod Clauses
pub mod ColumnLaws
