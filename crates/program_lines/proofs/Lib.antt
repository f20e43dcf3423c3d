-- What the proofs of the programs use of printed lines.
pub mod LineSteps
