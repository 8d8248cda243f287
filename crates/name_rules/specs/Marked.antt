-- A table of the marks of names. Two names are compared only where their marks agree.
-- Assumes nothing.
use Rattle.std.specs.Prelude.{ℕ, ◌<◌, ◌≡◌, List, get_or}
use Rattle.mark.specs.Mark.{mark}
use Rattle.name_rules.specs.Placed.{name_of}

-- the first n names' marks stand in the list
abbrev pub Marked : ℕ → List ℕ → List ℕ → List ℕ → Type 0
Marked n categories names l = (i : ℕ) → i < n → get_or l i 0 ≡ mark (name_of i categories names)
