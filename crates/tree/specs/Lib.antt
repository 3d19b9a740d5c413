-- What a reader must believe: Trees, Answers. Read, Posts and Walks are steps of the program and of its proof.
pub mod Trees
pub mod Answers
pub mod Read
pub mod Walks
pub mod Posts
