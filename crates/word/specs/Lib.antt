-- What the functions of `word` promise.
pub mod Words
pub mod Left
