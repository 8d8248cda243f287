-- The laws of readers that fill five tables, whatever they read.
pub mod Five
pub mod Sizes
pub mod Whole
pub mod Promise
