pub mod Decimal
pub mod Floats
pub mod Size
pub mod Steps
