-- What the functions of `unk_line` promise.
pub mod Line
pub mod Asked
