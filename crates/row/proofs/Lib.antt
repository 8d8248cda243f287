-- The laws that the proofs share, here and in the builder of the flat table: what the walk leaves over tables that hold together; the promise.
pub mod Meets
pub mod Promise
