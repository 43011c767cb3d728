pub mod Payloads
pub mod Going
pub mod Turns
pub mod Staying
