pub mod Heads
pub mod Logs
pub mod Once
pub mod Reading
