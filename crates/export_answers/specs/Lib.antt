-- The answers that several calls share, then their laws.
pub mod Clauses
pub mod ContractLaws
