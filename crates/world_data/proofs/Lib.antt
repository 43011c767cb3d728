pub mod Soundness
mod FrameEnds
mod NumbersRead
