-- What `eval` promises.
pub mod Sought
