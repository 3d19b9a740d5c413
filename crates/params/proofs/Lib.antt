pub mod Seeking
pub mod Adding
