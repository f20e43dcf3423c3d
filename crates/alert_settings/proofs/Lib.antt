-- What the proofs of settings use.
pub mod SplitSteps
