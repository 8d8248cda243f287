-- A turn of the loop over references: what the code reads of one, and what its test says of the paper's.
-- Assumes nothing.
use Prim.Native.Nat.{ℕ, ◌+◌, ◌*◌, ◌≤◌, ◌<◌}
use native.Mathlib.Omega.{arith}
use mathlib.Core.Path.{◌≡◌, ◌∙◌}
use mathlib.Core.Bool.{Bool, false}
use mathlib.Core.List.{List, map}
use lib.Dec.{ltb}
use lib.ListN.{length}
use mir.Facts.{ltb_yes, yes_ltb}
use Rattle.paper.specs.Lists.{all}
use Rattle.paper.specs.Tables.Layout.{pieces}
use Rattle.paper.specs.Tables.Lent.{num, got}
use Rattle.paper.proofs.Tables.Laws.{left}
use Rattle.table_rules.proofs.Turn.{entry}
use Rattle.table_rules.proofs.Entries.{first_got, inside, all_begin, all_fails, all_goes, all_map}

abbrev pub is_known : ℕ → List ℕ → Bool
is_known known p = ltb (num 2 0 p) known

pub numbers_begin : (known : ℕ) (l : List ℕ) (n : ℕ) → all (is_known known) (left 2 n 0 l) ≡ all (λ c. ltb c known) (map (num 2 0) (pieces 2 n l))
numbers_begin known l n = all_begin 2 (is_known known) l n ∙ all_map (λ c. ltb c known) (num 2 0) (pieces 2 n l)

module _
    (known : ℕ)
    (l : List ℕ)
    (n i c : ℕ)
    (v : Bool)
    (inv : all (is_known known) (left 2 n i l) ≡ v)
    (lt : i < n)
    (long : 2 * n ≤ length l)
    (e : c ≡ got 2 (2 * i) l)
  where
    number_is : c ≡ num 2 0 (entry 2 i l)
    number_is = e ∙ first_got 2 2 i l (omega arith) (inside 2 i n l lt long)

    pub number_fails : known ≤ c → false ≡ v
    number_fails h = all_fails 2 (is_known known) l n i v inv lt (λ t. let k : num 2 0 (entry 2 i l) < known = ltb_yes t in omega (arith, number_is))

    pub number_goes : c < known → all (is_known known) (left 2 n (i + 1) l) ≡ v
    number_goes h = all_goes 2 (is_known known) l n i v inv lt (let k : num 2 0 (entry 2 i l) < known = omega (arith, number_is) in yes_ltb k)
