-- Document 01's limits, and how many digits they have.
pub mod Limits
pub mod LimitLaws
