pub mod Scan
pub mod Commas
pub mod Read
pub mod Joined
pub mod Fits
