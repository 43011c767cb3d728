pub mod Texts
pub mod Lengths
pub mod LengthLaws
pub mod ObjectSums
pub mod ChannelSums
