pub mod Directions
pub mod Pages
pub mod PageLaws
pub mod Found
