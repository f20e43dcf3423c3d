-- The figures of an envelope as they are given, then their laws.
pub mod Clauses
pub mod ContractLaws
