-- What the proofs of several functions use.
pub mod Standings
pub mod Giving
pub mod Reading
