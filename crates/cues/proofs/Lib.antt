-- What the proofs of several functions use.
pub mod Paragraphs
pub mod Lined
pub mod Blanks
pub mod Cued
pub mod Walking
pub mod Elements
