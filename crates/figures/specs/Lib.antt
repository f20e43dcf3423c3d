-- The functions of the figures: what each gives.
pub mod Clauses
