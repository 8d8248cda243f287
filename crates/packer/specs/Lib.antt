-- What the writer promises: `Write` is the public promise, `Length` the length that it tests the room with.
pub mod Write
pub mod Length
