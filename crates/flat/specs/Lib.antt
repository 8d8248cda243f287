-- What the functions of `flat` promise: `build_flat_table` by Built; Made is between this and the code.
pub mod Built
pub mod Made
