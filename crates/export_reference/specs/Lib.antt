-- What the calls on a reference text answer.
pub mod Clauses
