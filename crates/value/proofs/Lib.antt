-- How a line of values is read field by field.
pub mod ValuesSteps
