pub mod Entry
pub mod Bad
