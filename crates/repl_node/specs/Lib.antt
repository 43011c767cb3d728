pub mod LogTexts
pub mod Following
pub mod LogWorlds
pub mod Deliveries
pub mod Followers
pub mod FollowedSoFar
