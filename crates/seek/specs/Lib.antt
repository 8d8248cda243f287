-- What a search for a name promises.
pub mod Finds
