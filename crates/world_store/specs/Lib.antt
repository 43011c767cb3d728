pub mod Stored
pub mod ListLaws
pub mod Copies
