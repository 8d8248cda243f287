-- The promise, and what it gives to those who look up.
pub mod Promise
