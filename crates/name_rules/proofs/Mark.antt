-- Marks: a table of them that is filled, and that names of different marks are different names.
-- Assumes nothing.
use Prim.Native.Nat.{ℕ, ◌+◌, ◌<◌}
use native.Mathlib.Decide.{ℕ_discrete}
use native.Mathlib.Omega.{arith}
use mathlib.Core.Path.{◌≡◌, sym, ap, ◌∙◌}
use mathlib.Core.Bool.{false}
use mathlib.Core.List.{List}
use lib.ListN.{length, get_or, set}
use lib.Seq.{get_or-set_same, get_or-set_other}
use Rattle.paper.specs.Lists.{same}
use Rattle.paper.proofs.Lists.Seen.{same_eq}
use Rattle.name_rules.specs.Placed.{name_of}
use Rattle.mark.specs.Mark.{mark}
use Rattle.name_rules.specs.Marked.{Marked}
use Rattle.table_rules.proofs.Tests.{untrue}

-- ---- a table of marks

pub marked_more : (n : ℕ) (categories names l : List ℕ) (m : ℕ) → n < length l → Marked n categories names l
    → m ≡ mark (name_of n categories names) → Marked (n + 1) categories names (set l n m)
marked_more n categories names l m lt before e i h =
    elim (ℕ_discrete i n) [
      | yes d ↦ ap (λ k. get_or (set l n m) k 0) d ∙ get_or-set_same l n m 0 lt ∙ e ∙ ap (λ k. mark (name_of k categories names)) (sym d)
      | no d ↦ get_or-set_other l n i m 0 d ∙ before i (omega arith)
    ]

-- ---- a filter

pub marks_apart : (s t : List ℕ) → (mark t ≡ mark s → ⊥) → same s t ≡ false
marks_apart s t f = untrue (same s t) (λ h. f (ap mark (sym (same_eq s t h))))
