-- What is put of the tables besides the ranges.
pub mod Parts
