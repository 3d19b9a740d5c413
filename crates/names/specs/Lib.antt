pub mod Lists
pub mod Numbers
pub mod Posts
pub mod Plain
pub mod Steps
