-- What the proofs of several functions use, and what the crates above cite.
pub mod Values
pub mod Tests
pub mod Truncated
pub mod Counting
pub mod Reading
pub mod Sizes
pub mod Spellings
pub mod OneSpelling
pub mod Numbers
