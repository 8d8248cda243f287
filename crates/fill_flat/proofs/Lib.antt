-- The laws of the walk.
pub mod Fills
