-- First sights by stamps: a category was seen in this row where its place holds the row's stamp. One that has no place counts as seen.
-- Assumes nothing.
use Rattle.std.specs.Prelude.{ℕ, ◌+◌, ◌≡◌, Bool, true, cond, List, [], ◌∷◌, ltb, eqb, length, get_or, set}
use Rattle.std.proofs.lemmas.List.Edits.{sets}
use Rattle.paper.specs.Rows.Covering.{or_else}

abbrev pub is_seen : ℕ → List ℕ → ℕ → Bool
is_seen s seen x = cond (ltb x (length seen)) (eqb (get_or seen x 0) s) true

-- the numbers at first sight
unfoldable pub stamped : ℕ → List ℕ → List ℕ → List ℕ
stamped s seen [] = []
stamped s seen (x ∷ xs) =
    let a = stamped s seen xs in
    let b = x ∷ stamped s (set seen x s) xs in
    cond (is_seen s seen x) a b

-- the stamps afterwards
unfoldable pub stamps : ℕ → List ℕ → List ℕ → List ℕ
stamps s seen [] = seen
stamps s seen (x ∷ xs) = stamps s (cond (is_seen s seen x) seen (set seen x s)) xs

-- the numbers l noted behind `at`: those at first sight are written, and counted where there is no place
pub record Noted (s : ℕ) (l seen₀ seen₁ out₀ out₁ : List ℕ) (at end : ℕ) : Type 0 where
  pub seen : seen₁ ≡ stamps s seen₀ l
  pub out : out₁ ≡ sets out₀ at (stamped s seen₀ l)
  pub count : end ≡ at + length (stamped s seen₀ l)

-- the same, and `ds` where there is none at first sight
pub record Rowed (s : ℕ) (l ds seen₀ seen₁ out₀ out₁ : List ℕ) (at end : ℕ) : Type 0 where
  pub seen : seen₁ ≡ stamps s seen₀ l
  pub out : out₁ ≡ sets out₀ at (or_else (stamped s seen₀ l) ds)
  pub count : end ≡ at + length (or_else (stamped s seen₀ l) ds)
