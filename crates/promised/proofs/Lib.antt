pub mod Numbers
pub mod Trees
pub mod Promises
pub mod Determined
pub mod Meaning
pub mod Theorem
pub mod Cases
pub mod Examples
