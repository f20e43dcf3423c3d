-- The heading of a reference text or a record, in reading order: its definition and laws, then what the functions answer.
pub mod Heading
pub mod HeadingLaws
pub mod Clauses
