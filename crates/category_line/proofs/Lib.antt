-- The laws that the proofs share; `line` says by `says_refused` that a range line is refused.
pub mod Lines
