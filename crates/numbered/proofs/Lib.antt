-- The laws that the proofs share, and what the promises say over tables in which a reading stands.
pub mod Numbers
pub mod Promise
