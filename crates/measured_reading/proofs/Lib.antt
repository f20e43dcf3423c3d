-- How the code comes to what is measured.
pub mod MeasureSteps
