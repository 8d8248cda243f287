-- What finding a category by its name promises.
pub mod Lookup
