-- What the rooms that a reader was lent must look like.
pub mod Kept
