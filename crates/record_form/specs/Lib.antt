-- The form of a record, in reading order: the whole text and what may stand in it, the weights in their places; then the laws, and
-- what the functions answer.
pub mod Record
pub mod Weights
pub mod RecordLaws
pub mod FaultLaws
pub mod WeightsLaws
pub mod Clauses
