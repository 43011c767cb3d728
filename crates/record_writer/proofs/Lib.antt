pub mod Growing
pub mod Counts
