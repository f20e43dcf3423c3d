-- What the programs that run stored cases read, and what they keep of a list in one number.
pub mod Numbers
pub mod Digest
pub mod Clauses
