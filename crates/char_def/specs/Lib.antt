-- What the reader of char.def promises.
pub mod Parse
