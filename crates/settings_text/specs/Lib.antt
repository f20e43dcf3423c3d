-- A settings text, in reading order: what it is read as; then the laws, what the functions answer and its laws.
pub mod SettingsText
pub mod SettingsTextLaws
pub mod Clauses
pub mod ContractLaws
