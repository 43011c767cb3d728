pub mod Reading
pub mod Recorded
pub mod Versions
