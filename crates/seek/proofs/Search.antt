-- One search for a name, over whatever the names are read from: what is left of them decides as all of them do, and the number counts
-- those that were passed.
-- Assumes nothing.
use Prim.Native.Nat.{ℕ, zero, suc, ◌+◌}
use native.Mathlib.Numerals.{add-one}
use native.Mathlib.Omega.{arith}
use mathlib.Core.Path.{◌≡◌, refl, sym, ap, ◌∙◌}
use mathlib.Core.Bool.{true, false, cond, ◌||◌}
use mathlib.Core.List.{List, [], ◌∷◌}
use Rattle.paper.specs.Lists.{any, same, position_of}
use Rattle.seek.specs.Finds.{Finds}
use Rattle.std.specs.Prelude.{None, Some}

pub record Searching (names : List (List ℕ)) (n : List ℕ) (i : ℕ) (rest : List (List ℕ)) : Type 0 where
  pub some : any (same n) rest ≡ any (same n) names
  pub place : i + position_of same n rest ≡ position_of same n names

pub search_start : (names : List (List ℕ)) (n : List ℕ) → Searching names n 0 names
search_start names n = record { some = refl; place = omega arith }

module _ {names : List (List ℕ)} {n : List ℕ} {i : ℕ} {rest : List (List ℕ)} (z : Searching names n i rest) where
  module _ (x : List ℕ) (more : List (List ℕ)) (e : rest ≡ x ∷ more) where
    pub search_hit : true ≡ same n x → Finds names n (Some i)
    search_hit h =
        let p : position_of same n rest ≡ 0 = ap (position_of same n) e ∙ ap (λ b. cond b zero (suc (position_of same n more))) (sym h) in
        let q = z.place in
        (sym z.some ∙ ap (any (same n)) e ∙ ap (λ b. b || any (same n) more) (sym h), omega arith)

    pub search_on : false ≡ same n x → Searching names n (i + 1) more
    search_on h =
        let p : position_of same n rest ≡ suc (position_of same n more) = ap (position_of same n) e ∙ ap (λ b. cond b zero (suc (position_of same n more))) (sym h) in
        let q = z.place in
        record { some = ap (λ b. b || any (same n) more) h ∙ ap (any (same n)) (sym e) ∙ z.some; place = omega (arith, add-one i) }

  pub search_done : rest ≡ [] → Finds names n None
  search_done e = sym z.some ∙ ap (any (same n)) e
