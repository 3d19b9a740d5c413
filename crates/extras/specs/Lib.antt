pub mod Kept
pub mod Counts
