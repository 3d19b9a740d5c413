pub mod Named
pub mod Rows
