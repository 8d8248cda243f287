-- What a line answers, and what the functions for category lines promise.
pub mod Answer
pub mod Asked
