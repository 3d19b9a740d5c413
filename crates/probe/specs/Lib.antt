pub mod Answers
pub mod Decimals
pub mod Colors
pub mod Times
pub mod Trees
