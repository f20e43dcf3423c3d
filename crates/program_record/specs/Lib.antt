-- A record against a reference text, in reading order: the definitions, and the laws.
pub mod Against
pub mod AgainstLaws
