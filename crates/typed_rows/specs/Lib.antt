-- Rows of typed channels: when they are within their limits, then the laws about it.
pub mod Given
pub mod GivenLaws
