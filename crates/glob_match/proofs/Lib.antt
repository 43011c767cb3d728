pub mod SignLaws
pub mod ClassLaws
pub mod Matching
pub mod TokenLaws
