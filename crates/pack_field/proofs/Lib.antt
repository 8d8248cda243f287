pub mod Steps
pub mod Fill
