pub mod Sums
pub mod Expressions
pub mod Written
pub mod Steps
