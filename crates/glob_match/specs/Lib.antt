pub mod Signs
pub mod Tokens
pub mod Classes
pub mod Matches
