-- The laws that the proofs share, and those of the crates above that read entries of tables.
pub mod Tests
pub mod Turn
pub mod Chunks
pub mod Entries
