pub mod Lists
pub mod Reading
pub mod Ascending
pub mod Picked
pub mod Sorting
pub mod Places
pub mod NameOrder
pub mod Slots
