-- What the reader of unk.def promises: how its tables stand in bytes, and what the steps below it leave.
pub mod Layout
pub mod Walk
pub mod Parse
pub mod Filled
