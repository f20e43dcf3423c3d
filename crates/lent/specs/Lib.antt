-- What is handed out to lent memory, in reading order: a lent slice whose first places are filled, a text that is written, the laws.
pub mod Filled
pub mod Clauses
pub mod ContractLaws
