-- The laws that the proofs share.
pub mod Scan
pub mod Walking
