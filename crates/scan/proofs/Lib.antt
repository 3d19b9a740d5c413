-- What the proofs of several functions use, and what the crates above cite.
pub mod Every
pub mod Loop
pub mod Runs
pub mod Searches
pub mod Naming
pub mod Stores
pub mod Rows
pub mod Splits
pub mod Handed
