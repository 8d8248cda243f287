-- What the functions of `unk_enter` promise: an entry in bytes, and the step of a line.
pub mod Fields
pub mod Lines
