-- The mathematics of the parts: names and definitions as the loops meet them, and the fields of a reading.
pub mod Definitions
pub mod Names
pub mod Handed
