-- What `refusal_of` promises.
pub mod Room
