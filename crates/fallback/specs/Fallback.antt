-- What a row has where its ranges name no category: "DEFAULT if interned, else empty".
-- Assumes nothing.
use Rattle.std.specs.Prelude.{ℕ, List, [], ◌∷◌}
use Rattle.std.proofs.Math.Option.{Option, none, some}
use Rattle.paper.specs.Rows.Lookup.{Looked, gives, refuses}

-- the row of a name that was looked for
abbrev pub found_row : Looked (Option ℕ) → List ℕ
found_row (gives (some number)) = number ∷ []
found_row (gives none) = []
found_row (refuses n) = []
