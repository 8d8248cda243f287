pub mod White
pub mod Rules
pub mod Flat
