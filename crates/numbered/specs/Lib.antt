-- What the functions of `numbered` promise.
pub mod Numbers
