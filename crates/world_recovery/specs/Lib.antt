pub mod Replayed
pub mod Opened
pub mod Recorded
pub mod HeadsRead
pub mod HeadsDamaged
pub mod BatchesHeld
pub mod BatchesBroken
pub mod Records
