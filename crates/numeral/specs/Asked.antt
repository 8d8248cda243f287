-- What the functions inside this crate ask and promise of places and of the base.
-- Assumes nothing.
use Rattle.std.specs.Prelude.{ℕ, ◌≤◌, ◌≡◌}
use Rattle.paper.specs.Sizes.{max_u32}

-- r is the lesser of a and b
pub record Least (a b r : ℕ) : Type 0 where
  pub first : r ≤ a
  pub second : r ≤ b
  pub one : b ≤ a → r ≡ b
  pub other : a ≤ b → r ≡ a

-- a base up to 16; a limit that a u32 holds
pub record Reads (base limit : ℕ) : Type 0 where
  pub some_base : 1 ≤ base
  pub small_base : base ≤ 16
  pub small_limit : limit ≤ max_u32
