-- What a reader must believe is `writer`'s Promise. These are what the program's inner functions ask and ensure.
pub mod Styles
pub mod Regions
pub mod Roots
