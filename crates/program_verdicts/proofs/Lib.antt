-- What the proofs of the verdicts use.
pub mod VerdictSteps
