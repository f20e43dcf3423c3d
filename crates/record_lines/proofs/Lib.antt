-- How the code reads the lines of a record field by field.
pub mod LineSteps
pub mod ResultSteps
pub mod WeightSteps
