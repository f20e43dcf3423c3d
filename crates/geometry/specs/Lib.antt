-- Rows, weights and the ball, in reading order: the figures of a set of weights, the far and the near row, one move, the
-- limits; then what the functions over them ask of their arguments, and the laws.
pub mod Figures
pub mod Select
pub mod Move
pub mod Scores
pub mod Table
pub mod Places
pub mod Clauses
pub mod PlacesLaws
pub mod TableLaws
pub mod SelectLaws
pub mod Rival
