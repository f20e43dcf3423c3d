-- The printing of a record: the record of an envelope and the most bytes of its text, the room for its printing, and its laws.
pub mod Printed
pub mod Clauses
pub mod PrintedLaws
