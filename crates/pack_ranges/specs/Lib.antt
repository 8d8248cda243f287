-- What the reader of a pack's ranges promises.
pub mod Ranges
