-- What writing a record answers, then its laws.
pub mod Clauses
pub mod WriteLaws
