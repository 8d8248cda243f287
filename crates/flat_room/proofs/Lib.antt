-- The laws of the refusal, here and for the builder.
pub mod Room
