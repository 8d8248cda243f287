-- The mathematics of the writer's proofs.
pub mod Length
pub mod Whole
pub mod Answer
pub mod Promise
