-- What the proofs of trials use.
pub mod LineSteps
pub mod TrialSteps
