-- What the exported entries promise, and what they need of an outcome.
pub mod Answer
pub mod Room
