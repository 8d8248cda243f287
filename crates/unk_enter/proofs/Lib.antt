-- The laws that the proofs share.
pub mod Copy
pub mod Patches
pub mod Marks
pub mod Entered
