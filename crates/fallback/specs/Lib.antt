-- What `fallback_of` promises: the row of what was found by its name.
pub mod Fallback
