-- What is put of the ranges.
pub mod Ranges
