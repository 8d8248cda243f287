pub mod Names
pub mod Naming
