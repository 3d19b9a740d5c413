-- What the proofs of several functions use.
pub mod Summing
pub mod Answers
pub mod Clocks
pub mod Fractions
pub mod Counts
pub mod Parts
pub mod Ways
pub mod Back
pub mod UsualTimes
pub mod Examples
