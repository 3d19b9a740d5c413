-- What the proofs of several functions use, and what is proved of the call.
pub mod Promised
pub mod Theorem
