pub mod Defined
pub mod Body
