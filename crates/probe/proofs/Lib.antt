-- What the proofs of several functions use.
pub mod Decimals
pub mod Trees
