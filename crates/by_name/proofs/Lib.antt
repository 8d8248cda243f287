-- The laws that the proofs share.
pub mod Placed
pub mod Lookup
