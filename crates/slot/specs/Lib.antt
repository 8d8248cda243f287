-- What the functions of `slot` promise.
pub mod Slots
pub mod Laid
