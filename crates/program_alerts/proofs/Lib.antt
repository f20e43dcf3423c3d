-- What is printed of a trial.
pub mod TrialSteps
