-- The laws that the proofs share.
pub mod Same
pub mod Placed
pub mod Formed
pub mod Mark
pub mod Once
