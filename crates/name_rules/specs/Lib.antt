-- What the functions of `name_rules` promise: the names that slots place, and their marks.
pub mod Placed
pub mod Marked
