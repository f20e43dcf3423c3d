-- A reading's text, in reading order: the written form, what the functions do, then the laws.
pub mod Reading
pub mod Clauses
pub mod ReadingLaws
