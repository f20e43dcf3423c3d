-- What the proofs of the programs use of a reference text that is read.
pub mod ReadSteps
