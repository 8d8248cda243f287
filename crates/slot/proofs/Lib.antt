-- The laws that the proofs share, those of a name that is entered, for the crates above, and an example.
pub mod Hints
pub mod Laid
pub mod More
pub mod Written
pub mod Examples
