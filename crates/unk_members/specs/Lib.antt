-- What the functions of `unk_members` promise.
pub mod Members
