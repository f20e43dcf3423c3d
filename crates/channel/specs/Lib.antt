-- Channel types, in reading order: the table of document 01 and what is found in it, then what the functions answer; after each its
-- laws.
pub mod Channel
pub mod ChannelLaws
pub mod Clauses
pub mod ContractLaws
pub mod CodesLaws
