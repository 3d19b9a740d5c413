-- What the proofs of several functions use.
pub mod Enough
pub mod References
pub mod Decoding
pub mod Examples
pub mod Valid
pub mod Escapes
pub mod Back
