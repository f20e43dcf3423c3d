-- What the drawing and the check answer.
pub mod Clauses
