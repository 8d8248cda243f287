-- The mathematics of putting fields: bits of a number, one field behind another, a run of bytes.
pub mod Bits
pub mod Writing
pub mod Bytes
