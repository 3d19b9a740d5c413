pub mod Demands
pub mod Marked
pub mod ReadBack
pub mod Steps
