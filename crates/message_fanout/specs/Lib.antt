pub mod Raises
pub mod Stagings
pub mod Laws
