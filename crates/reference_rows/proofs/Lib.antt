-- How the code reads the rows line by line.
pub mod RowsSteps
pub mod Walk
