-- The laws of DEFAULT by its name, here and for the builders.
pub mod Default
