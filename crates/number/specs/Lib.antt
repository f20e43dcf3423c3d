-- Plain numbers, in reading order: as they are written, what the code keeps of one; after each its laws.
pub mod Number
pub mod NumberLaws
pub mod Clauses
pub mod ContractLaws
