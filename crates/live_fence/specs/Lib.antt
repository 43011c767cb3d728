pub mod LiveFences
pub mod Parts
pub mod FenceWord
pub mod Laws
