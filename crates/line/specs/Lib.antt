-- What a line's bytes say, what the functions for range lines promise, and what `read_line` promises by the paper's relations.
pub mod Bytes
pub mod Asked
pub mod Fits
