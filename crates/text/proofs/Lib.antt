pub mod Octets
pub mod Chars
pub mod Prefix
pub mod White
pub mod Examples
