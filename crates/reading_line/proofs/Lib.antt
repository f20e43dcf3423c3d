-- How the code reads a reading's line pair by pair.
pub mod LineSteps
