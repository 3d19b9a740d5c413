-- What the proofs of several functions use.
pub mod Demands
pub mod Marked
pub mod Returning
