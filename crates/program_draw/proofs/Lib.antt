-- What the proofs of `draw` use.
pub mod DrawSteps
