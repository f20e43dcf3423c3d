-- How the code prints a record line by line.
pub mod PrintSteps
