pub mod Cells
pub mod Standing
pub mod Turns
pub mod Making
pub mod Looping
pub mod Finding
pub mod Joining
