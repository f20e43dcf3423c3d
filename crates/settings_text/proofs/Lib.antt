-- How the code reads a settings text: a field, a line, and line by line.
pub mod ReadSteps
