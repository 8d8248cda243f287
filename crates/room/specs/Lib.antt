-- What a reader works over behind refusal 1: tables of just the sizes.
pub mod Sized
