pub mod Posts
pub mod Find
pub mod Siblings
