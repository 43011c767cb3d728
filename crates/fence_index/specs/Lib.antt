pub mod Marks
pub mod Candidates
pub mod Silence
pub mod Held
pub mod Reasons
pub mod Boxed
pub mod Numbered
pub mod SumLaws
