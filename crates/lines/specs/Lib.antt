-- What the functions of `lines` promise: the lines of a text, and the walk over them.
pub mod Lines
