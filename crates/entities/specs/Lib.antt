pub mod Reference
pub mod Decode
pub mod Escape
pub mod Steps
