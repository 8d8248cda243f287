-- The demands are met.
pub mod Demand1
pub mod Demand3
pub mod Demand2
pub mod Packs
pub mod Unk
pub mod EndToEnd
