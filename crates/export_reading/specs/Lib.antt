-- What the calls on a reading answer.
pub mod Clauses
