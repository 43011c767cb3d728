pub mod Waiting
pub mod Packed
