-- Texts, in reading order: bytes written as a quoted text, parts between separators, lines, lines with their byte 10; what the functions
-- answer; the laws.
pub mod Ascii
pub mod Bytes
pub mod Parts
pub mod Lines
pub mod EndedLines
pub mod Fields
pub mod Clauses
pub mod PartsLaws
pub mod LinesLaws
pub mod FieldsLaws
pub mod EndedLinesLaws
pub mod LineCountLaws
