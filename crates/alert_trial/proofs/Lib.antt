-- What the proofs of counting use.
pub mod CountSteps
pub mod WalkSteps
