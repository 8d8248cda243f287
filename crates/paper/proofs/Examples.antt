pub mod CharDef
pub mod Further
pub mod Unk
pub mod Pack
pub mod Rules
pub mod White
pub mod Rows
pub mod Lines
