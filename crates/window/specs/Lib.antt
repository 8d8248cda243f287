-- What the functions of `window` promise: a walk in its window, and the slots that have to do with it.
pub mod Near
