pub mod Walks
pub mod Geometries
pub mod Texts
pub mod Laws
pub mod StoredLaws
