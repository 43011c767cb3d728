pub mod Planned
pub mod Dropping
pub mod Subscribing
pub mod Settings
pub mod Asking
pub mod Contexts
