-- The laws of the search, also for what its answer says in a lookup.
pub mod Search
