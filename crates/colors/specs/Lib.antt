pub mod Named
pub mod Colors
pub mod Written
pub mod Steps
