pub mod Covering
pub mod Flat
pub mod Build
pub mod Lookup
pub mod Lookups
pub mod Numbers
