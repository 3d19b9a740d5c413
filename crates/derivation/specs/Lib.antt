pub mod Strings
pub mod Steps
