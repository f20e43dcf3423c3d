-- The functions of one move: what each gives, and laws of it.
pub mod Clauses
pub mod ContractLaws
