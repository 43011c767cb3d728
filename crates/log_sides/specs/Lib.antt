pub mod Closing
pub mod Crashing
pub mod Making
pub mod Sealing
pub mod States
pub mod Texts
pub mod Torn
