-- The laws of comparing and of searching, for all who seek names.
pub mod Compare
pub mod Search
