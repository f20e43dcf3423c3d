-- A measured reading, in reading order: what is answered, then the laws.
pub mod Measured
pub mod MeasuredLaws
