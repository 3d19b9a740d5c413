-- What the proofs of several functions use.
pub mod Walking
pub mod Rows
pub mod TextLaws
