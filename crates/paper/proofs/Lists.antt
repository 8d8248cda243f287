pub mod Facts
pub mod Pieces
pub mod Seen
pub mod Parts
