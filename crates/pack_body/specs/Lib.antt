-- What the reader of a pack's body promises.
pub mod Definitions
pub mod Body
