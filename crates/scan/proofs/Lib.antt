-- The laws that the proofs share, here and in the crates above.
pub mod Widths
pub mod Spread
pub mod Bridge
pub mod BodyBridge
pub mod Scan
pub mod Runs
pub mod Steps
pub mod Places
