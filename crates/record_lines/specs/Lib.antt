-- The lines of a record after its heading, read and printed; then the laws, and what the functions answer.
pub mod Lines
pub mod LinesLaws
pub mod Clauses
pub mod ContractLaws
