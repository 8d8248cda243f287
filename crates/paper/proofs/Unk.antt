pub mod Lines
pub mod Line
pub mod Bad
pub mod Text
pub mod Refused
pub mod Numbered
pub mod Details
pub mod Members
