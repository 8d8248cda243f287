-- Marked bytes, and what the scans ask and promise of them.
pub mod Marks
pub mod Answer
pub mod Asked
