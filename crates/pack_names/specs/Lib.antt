-- What the reader of a pack's names promises.
pub mod Names
