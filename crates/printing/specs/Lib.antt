-- What is printed into a lent slice, and its laws.
pub mod Clauses
pub mod ContractLaws
pub mod UnsignedLaws
