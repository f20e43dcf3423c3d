-- Settings of an alert as they are lent, in reading order: the settings; then what is split, and the laws.
pub mod Settings
pub mod Clauses
pub mod SettingsLaws
