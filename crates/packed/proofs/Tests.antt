-- Empty lists by their length, and a category that is there: what `lookup` cites.
-- Assumes nothing.
use Prim.Native.Nat.{ℕ, ◌<◌}
use native.Mathlib.Omega.{arith}
use mathlib.Core.Path.{◌≡◌, refl}
use mathlib.Core.Bool.{true, false}
use mathlib.Core.List.{List, [], ◌∷◌}
use lib.ListN.{length, get_or}
use borrow.Author.Tests.{lt-ltb}
use Rattle.paper.specs.Lists.{empty}
use Rattle.packed.specs.Entries.{category_in, category}
use Rattle.std.specs.Prelude.{Ok}

-- ---- lists by their length

pub no_entries : (l : List ℕ) → length l ≡ 0 → empty l ≡ true
no_entries [] h = refl
no_entries (x ∷ l) h = absurd (omega arith)

pub some_entries : (l : List ℕ) → (length l ≡ 0 → ⊥) → empty l ≡ false
some_entries [] h = absurd (h refl)
some_entries (x ∷ l) h = refl

-- ---- one category

module _ (pool : List ℕ) (i : ℕ) where
  pub category_in_lem : i < length pool → Ok (get_or pool i 0) ≡ category (category_in pool i)
  unfolding category_in
  category_in_lem h = rw (lt-ltb i (length pool) h)
