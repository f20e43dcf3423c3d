-- What the exported trial of alert settings answers.
pub mod Clauses
