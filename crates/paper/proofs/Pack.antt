pub mod Size
pub mod Kept
pub mod Rules
pub mod Bits
pub mod Trip
pub mod Verdict
pub mod Follow
pub mod Broken
