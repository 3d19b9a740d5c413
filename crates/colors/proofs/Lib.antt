-- What the proofs of several functions use.
pub mod Names
pub mod Answers
pub mod Reading
pub mod Writing
pub mod Back
pub mod Digits
pub mod Examples
