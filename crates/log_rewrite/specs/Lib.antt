pub mod NewSides
