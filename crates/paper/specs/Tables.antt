pub mod Lent
pub mod Layout
pub mod HandedIn
pub mod Reader
