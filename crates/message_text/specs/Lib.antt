pub mod Payloads
pub mod Parts
