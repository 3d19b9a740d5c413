-- What the proofs of several functions use.
pub mod Utf8Laws
pub mod WhiteLaws
pub mod Boundaries
pub mod Trimming
pub mod Wording
pub mod Characters
