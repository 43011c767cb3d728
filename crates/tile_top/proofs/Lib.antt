mod FollowApp
mod LoadApp
pub mod Ends
pub mod Fronting
pub mod Telling
pub mod Unfollowed
pub mod Visiting
pub mod Wanting
