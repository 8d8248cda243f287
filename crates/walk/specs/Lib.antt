-- What the functions of `walk` promise: the next boundary.
pub mod Next
