-- What the functions for range lines promise: the places of `..`.
-- Assumes nothing.
use Rattle.std.specs.Prelude.{ℕ, ◌+◌, ◌≤◌, ◌≡◌, List, [], ◌∷◌, take, drop}
use Rattle.paper.specs.Computed.ReadText.{parts}
use Rattle.std.specs.Prelude.{None, Option, Some}

-- bytes of `..`
abbrev pub dots_bytes : ℕ
dots_bytes = 2

-- `..` stands first at `at`: what is before it is the first piece, the others stand behind it
pub record Cut (text : List ℕ) (start end at : ℕ) : Type 0 where
  pub from : start ≤ at
  pub within : at + dots_bytes ≤ end
  pub pieces : parts (drop start (take end text)) ≡ drop start (take at text) ∷ parts (drop (at + dots_bytes) (take end text))

-- `..` stands nowhere: the part is one piece
pub record Uncut (text : List ℕ) (start end : ℕ) : Type 0 where
  pub pieces : parts (drop start (take end text)) ≡ drop start (take end text) ∷ []

abbrev pub Dots : List ℕ → ℕ → ℕ → Option ℕ → Type 0
Dots text start end (Some at) = Cut text start end at
Dots text start end None = Uncut text start end
