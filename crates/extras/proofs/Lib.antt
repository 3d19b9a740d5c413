pub mod Counts
pub mod Few
pub mod Keeping
pub mod Noting
