-- What the proofs of several functions use.
pub mod Entries
pub mod NameLaws
pub mod Padded
pub mod Slots
