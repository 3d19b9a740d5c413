-- What a reader must believe: Promise, Where, Find; Reading is for the crates above. Steps are the program's.
pub mod Reading
pub mod Steps
pub mod Find
pub mod Rows
pub mod Where
pub mod Promise
