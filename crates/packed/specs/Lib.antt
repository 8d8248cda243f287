-- What the functions of `packed` promise.
pub mod Entries
