-- Where the label of a row stands.
pub mod Clauses
