pub mod Texts
pub mod Feeds
pub mod Laws
