-- What the functions of `entry` promise: the steps below a line.
pub mod Steps
