pub mod Walking
pub mod Rising
pub mod NextKeys
