-- The laws that the proofs share.
pub mod Clears
pub mod Given
