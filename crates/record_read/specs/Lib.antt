-- What reading a record answers; then the laws: what is accepted, and numbers as they are kept.
pub mod Clauses
pub mod ReadLaws
pub mod HeldLaws
