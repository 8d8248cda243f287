-- What `mark_of` promises.
pub mod Mark
