-- What a search for a name among names promises.
-- Assumes nothing.
use Rattle.std.specs.Prelude.{ℕ, ◌≡◌, true, false, List}
use Rattle.paper.specs.Lists.{any, same, position_of}
use Rattle.std.specs.Prelude.{None, Option, Some}

-- the lowest number with that name, or that none has it
abbrev pub Finds : List (List ℕ) → List ℕ → Option ℕ → Type 0
Finds names n (Some i) = (any (same n) names ≡ true) × (i ≡ position_of same n names)
Finds names n None = any (same n) names ≡ false
