-- The laws that the proofs share.
pub mod Enough
pub mod Known
pub mod Held
