-- The verdicts on the readings of a text, in reading order: what is printed; then the room for that, and the laws.
pub mod Output
pub mod Clauses
pub mod SizeLaws
pub mod OutputLaws
