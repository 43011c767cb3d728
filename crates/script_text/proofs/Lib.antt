pub mod WordLaws
pub mod EscapeLaws
pub mod Moments
pub mod RunLaws
