-- Whole numbers, in reading order: the definitions that other crates' definitions use, then their laws.
pub mod Tests
pub mod Sum
pub mod Ring
pub mod Solver
pub mod Order
pub mod SumLaws
pub mod Absolute
pub mod Reading
pub mod Partial
