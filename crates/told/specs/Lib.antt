pub mod Told
pub mod Trees
pub mod Queries
pub mod Steps
