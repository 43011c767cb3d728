pub mod WordLaws
pub mod StepLaws
pub mod BlindLaws
pub mod ScanLaws
pub mod ReaderLaws
pub mod ShortLaws
