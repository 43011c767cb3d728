mod ChannelSums
mod ChannelEffects
mod Confirming
