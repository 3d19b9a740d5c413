-- What a reader must believe: Promise. Steps is what the program's inner functions ensure.
pub mod Promise
pub mod Steps
