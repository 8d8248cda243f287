-- What a writer of fields promises.
pub mod Writer
