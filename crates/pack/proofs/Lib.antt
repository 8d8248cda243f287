pub mod Kept
pub mod Answer
pub mod Promise
