-- What a row has where its ranges name no category: "DEFAULT if interned, else empty".
-- Assumes nothing.
use Rattle.std.specs.Prelude.{ℕ, List, [], ◌∷◌}
use Rattle.std.specs.Prelude.{None, Option, Some}

abbrev pub fallback_row : Option ℕ → List ℕ
fallback_row (Some number) = number ∷ []
fallback_row None = []
