pub mod Parting
pub mod Shells
