-- What the proofs of more than one function cite.
pub mod Laws
