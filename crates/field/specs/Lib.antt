-- What a bit cursor promises.
pub mod Bits
pub mod Cursor
