-- How the code reads the `W` lines of a record one by one, and a record line by line.
pub mod WalkSteps
pub mod FormSteps
