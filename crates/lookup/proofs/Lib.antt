-- The laws that the proofs share, and what the promises leave open.
pub mod Categories
pub mod Promise
