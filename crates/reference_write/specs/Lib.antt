-- Reference texts written, in reading order: labels as they are lent, the text of what is lent, what writing answers, what a text
-- holds; then the laws of labels as they are lent, of plain rows and plain texts, of the first refusal, and of what a text
-- holds.
pub mod Labels
pub mod Writing
pub mod Clauses
pub mod Held
pub mod LabelsLaws
pub mod PlainRowsLaws
pub mod PlainLaws
pub mod FaultLaws
pub mod LendingLaws
pub mod HeldLaws
