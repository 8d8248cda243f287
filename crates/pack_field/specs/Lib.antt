-- What the readers of a pack's parts promise alike.
pub mod Parts
