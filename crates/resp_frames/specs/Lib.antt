pub mod PlaceSteps
pub mod RequestPlaces
pub mod Pieces
pub mod RequestReader
pub mod ShortRequests
