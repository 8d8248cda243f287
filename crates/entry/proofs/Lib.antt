-- The laws that the proofs share.
pub mod Words
pub mod Inside
pub mod Entered
