pub mod Laws
pub mod Trip
pub mod Room
pub mod Append
pub mod Holds
