-- The laws that the proofs share, and what the promise of `read_line` means.
pub mod LineBridge
pub mod Steps
pub mod Lines
pub mod Fits
