-- What the functions of `place` promise besides a write: a row's entry.
pub mod Entered
