-- How the code reads a whole text.
pub mod ReadSteps
