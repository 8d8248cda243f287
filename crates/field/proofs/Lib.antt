pub mod Window
pub mod Copy
pub mod Bridge
pub mod Promise
