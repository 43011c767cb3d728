pub mod Places
pub mod FoundValues
