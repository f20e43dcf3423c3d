-- What the programs read, in reading order: the arguments, what a read answered; then what the functions promise, and the laws.
pub mod Arguments
pub mod Reading
pub mod Clauses
pub mod ArgumentsLaws
pub mod ReadingLaws
