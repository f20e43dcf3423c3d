-- How the code finds a label.
pub mod LabelSteps
