-- What the calls on records answer, then their laws.
pub mod Clauses
pub mod ContractLaws
