-- What the functions of `lookup` promise.
pub mod Categories
pub mod Ways
