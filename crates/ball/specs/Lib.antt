-- The figures of weights, what is promised of them, and that they keep it.
pub mod Ball
pub mod Clauses
pub mod Demand
