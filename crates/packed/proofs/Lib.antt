-- The laws that the proofs share, and what the promises say over tables as built.
pub mod Tests
pub mod Promise
