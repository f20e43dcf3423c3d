-- Alert settings tried on readings: what the call tests and prints. The trial itself is in the crate of that name.
pub mod Clauses
