pub mod Escaped
pub mod Words
pub mod Lines
