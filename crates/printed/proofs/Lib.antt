-- What the proofs of several functions use, and the worked cases.
pub mod Printing
pub mod Examples
