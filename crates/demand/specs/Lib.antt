-- The user's demands, a file for each.
pub mod Demand1
pub mod Demand2
pub mod Packs
pub mod Unk
pub mod Demand3
pub mod EndToEnd
