-- The laws that the proofs share, here and in the crates above: slots and numbers, notes, first sights.
pub mod Entries
pub mod Turn
pub mod Notes
pub mod FirstSeen
