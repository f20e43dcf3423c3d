-- The reference text, in reading order: the whole text, the calls' answers, the contract of the function below them; then its
-- printing, and the laws that a text is accepted exactly when it is a printing.
pub mod Reference
pub mod Clauses
pub mod Printing
pub mod ReferenceLaws
pub mod PrintedLaws
pub mod LineLaws
pub mod TableLaws
pub mod RefusalLaws
pub mod ContractLaws
