-- How the code writes a text row by row.
pub mod RangeSteps
pub mod RowSteps
pub mod Walk
pub mod WriteSteps
