pub mod Answers
pub mod Behind
pub mod Stored
