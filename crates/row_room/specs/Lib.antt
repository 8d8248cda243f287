-- What `has_room` promises.
pub mod Room
