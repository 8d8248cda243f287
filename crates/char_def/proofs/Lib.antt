-- The laws that the proof stands on.
pub mod Text
pub mod Whole
