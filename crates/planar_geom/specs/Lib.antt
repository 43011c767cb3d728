pub mod Points
pub mod GrownBoxes
pub mod Figures
pub mod Standings
pub mod Shapes
pub mod Relations
pub mod Nearness
