pub mod FaultLaws
pub mod Loops
pub mod Rings
pub mod Nested
pub mod Counts
pub mod StoredNumbers
pub mod StoredTexts
pub mod Reading
