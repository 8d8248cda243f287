pub mod Ends
pub mod Walking
pub mod Room
pub mod Fill
pub mod Laid
pub mod Whole
pub mod Promise
