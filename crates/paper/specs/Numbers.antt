pub mod Numeral
pub mod Bytes
