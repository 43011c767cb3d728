pub mod Steps
pub mod Looking
pub mod Found
pub mod Opens
pub mod LogReads
