-- The check and what it promises, then the laws.
pub mod Check
pub mod Clauses
pub mod CheckLaws
pub mod Demand
