-- The laws of the exported reader of unk.def.
pub mod Whole
pub mod Places
pub mod Promise
