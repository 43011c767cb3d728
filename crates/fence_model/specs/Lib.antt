pub mod Queries
pub mod Fences
pub mod Writes
pub mod Messages
