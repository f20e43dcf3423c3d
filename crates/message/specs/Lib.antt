-- What is told on standard error, and the room that is asked for it.
pub mod Message
pub mod Clauses
