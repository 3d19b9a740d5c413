pub mod Utf8
pub mod WhiteSpace
pub mod Steps
pub mod White
