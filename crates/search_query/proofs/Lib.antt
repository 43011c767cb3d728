pub mod InArea
pub mod InOrder
pub mod Nearest
pub mod Noted
pub mod Sorting
