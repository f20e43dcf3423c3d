-- What the proofs of reading use.
pub mod ReadSteps
