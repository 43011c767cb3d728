pub mod Counted
pub mod Finishing
pub mod Completions
mod Histories
