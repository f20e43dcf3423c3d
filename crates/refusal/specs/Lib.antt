-- The refusals, in reading order: the numbers by name, then the outcome of a call and its laws.
pub mod Number
pub mod Outcome
pub mod OutcomeLaws
