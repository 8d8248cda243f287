pub mod Line
pub mod Reading
pub mod BadLine
pub mod Bad
