-- Values of a channel, in reading order: the one definition of a value field, the values of a line, then what the code does with a number kept as
-- sign and magnitude; after each its laws.
pub mod Value
pub mod ValueLaws
pub mod Values
pub mod ValuesLaws
pub mod Clauses
pub mod ContractLaws
