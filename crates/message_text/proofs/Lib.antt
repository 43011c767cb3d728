pub mod FieldTexts
pub mod Pieces
pub mod Wholes
