-- What the reader of a pack's head promises.
pub mod Head
