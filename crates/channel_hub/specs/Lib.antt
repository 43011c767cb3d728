pub mod Hubs
pub mod DueOrder
pub mod DuePlaces
pub mod Dues
pub mod MessageLaws
pub mod Named
