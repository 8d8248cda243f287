-- The laws that the proofs share, here and in `walk`: far slots, and the near ones gathered.
pub mod Windows
pub mod Gathering
