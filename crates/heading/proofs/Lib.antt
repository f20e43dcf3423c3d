-- How the code reads a heading field by field, what its answer says of the line, and how it prints one tag by tag.
pub mod HeadingSteps
pub mod Headed
pub mod PrintSteps
