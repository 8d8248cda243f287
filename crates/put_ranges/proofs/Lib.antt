-- The mathematics of the ranges: entries of tables as the writer's loops meet them, and a turn of the loop.
pub mod Entries
pub mod Ranges
