-- What the proofs of several functions use.
pub mod Queries
pub mod Trees
