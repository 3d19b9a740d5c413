-- What the proofs of several functions use.
pub mod Numerals
pub mod Writing
