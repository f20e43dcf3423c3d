-- Alert settings tried on readings, in reading order: the trial; then what it answers and the room for it, and the laws.
pub mod Trial
pub mod Clauses
pub mod CountLaws
pub mod TrialLaws
pub mod TotalsLaws
pub mod SizeLaws
pub mod LineLaws
pub mod TurnedBackLaws
