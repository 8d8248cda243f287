pub mod Scalar
pub mod Lengths
pub mod Undo
pub mod Taken
pub mod Shapes
pub mod Prefix
pub mod Code
pub mod Bytes
