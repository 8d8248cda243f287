-- What the functions inside this crate ask: places in a text.
-- Assumes nothing.
use Rattle.std.specs.Prelude.{ℕ, ◌≤◌, ◌<◌, List, length, get_or}

-- a part of the text
pub record Inside (text : List ℕ) (start end : ℕ) : Type 0 where
  pub order : start ≤ end
  pub within : end ≤ length text

-- a byte of the part, from 80 on
pub record Wide (text : List ℕ) (at end : ℕ) : Type 0 where
  pub here : at < end
  pub within : end ≤ length text
  pub high : 0x80 ≤ get_or text at 0
