-- What the functions of `cover` promise: reads of slots and numbers by Slots, first sights by Stamps, what stands where nothing is named by Fallback.
pub mod Slots
pub mod Stamps
pub mod Fallback
