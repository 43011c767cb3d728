pub mod Bytes
pub mod Choosing
pub mod Durable
pub mod Elapsing
pub mod Reading
