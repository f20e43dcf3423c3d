-- How the code comes to the verdict.
pub mod VerdictSteps
