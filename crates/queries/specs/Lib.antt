pub mod Places
pub mod Promise
pub mod Steps
pub mod Reply
