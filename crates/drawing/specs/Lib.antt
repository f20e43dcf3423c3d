-- The drawing and what it promises, in reading order; then what the run of moves gives, and the laws.
pub mod Draw
pub mod Clauses
pub mod RunLaws
pub mod DrawLaws
pub mod Demand
pub mod DrawnWeights
