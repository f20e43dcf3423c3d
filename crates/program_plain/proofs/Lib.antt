-- What the proofs of `plain` use.
pub mod GatherSteps
pub mod PlainSteps
