pub mod Entries
pub mod KeyOrder
pub mod FirstDue
