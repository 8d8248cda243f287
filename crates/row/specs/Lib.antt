-- What the functions of `row` promise: `build_lookup_table` by Built; Made is between this and the code.
pub mod Built
pub mod Made
