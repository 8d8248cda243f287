-- What the exported reader of unk.def promises, and what it needs of an outcome.
pub mod Answer
pub mod Room
