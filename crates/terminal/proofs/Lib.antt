-- The laws of the exported entries.
pub mod Whole
pub mod PackPlaces
pub mod Places
