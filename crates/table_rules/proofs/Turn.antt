-- One law for every loop over the entries of a table, over the width, the state and the test: before turn i the test of the entries that
-- are left, from the state so far, is the test of all. A turn opens one entry.
-- Assumes nothing.
use Prim.Native.Nat.{ℕ, ◌+◌, ◌*◌, ◌≤◌, ◌<◌}
use mathlib.Core.Path.{◌≡◌, sym, ap, ◌∙◌}
use mathlib.Core.Bool.{Bool, false, ◌&&◌}
use mathlib.Core.List.{List, [], ◌∷◌}
use lib.Dec.{T}
use lib.ListN.{take, drop}
use Rattle.paper.specs.Tables.Layout.{pieces}
use Rattle.paper.proofs.Lists.Facts.{T→true}
use Rattle.paper.proofs.Tables.Laws.{left, left_all, left_none, left_more}
use Rattle.table_rules.proofs.Tests.{untrue}

-- entry i of width w
abbrev pub entry : ℕ → ℕ → List ℕ → List ℕ
entry w i l = take w (drop (w * i) l)

module _
    {S : Type 0}
    (w : ℕ)
    (test : S → List (List ℕ) → Bool)
    (one : S → List ℕ → Bool)
    (next : S → List ℕ → S)
    (more : (s : S) (p : List ℕ) (ps : List (List ℕ)) → test s (p ∷ ps) ≡ (one s p && test (next s p) ps))
    (l : List ℕ)
    (n : ℕ)
  where
    pub begins : (s : S) → test s (left w n 0 l) ≡ test s (pieces w n l)
    begins s = ap (test s) (left_all w n l)

    module _ (i : ℕ) (s : S) (v : Bool) (inv : test s (left w n i l) ≡ v) where
      opened : i < n → (one s (entry w i l) && test (next s (entry w i l)) (left w n (i + 1) l)) ≡ v
      opened lt = sym (ap (test s) (left_more w n i l lt) ∙ more s (entry w i l) (left w n (i + 1) l)) ∙ inv

      pub fails : i < n → (T (one s (entry w i l)) → ⊥) → false ≡ v
      fails lt f = rw (untrue (one s (entry w i l)) f) at (opened lt)

      pub goes : i < n → T (one s (entry w i l)) → test (next s (entry w i l)) (left w n (i + 1) l) ≡ v
      goes lt t = rw (T→true (one s (entry w i l)) t) at (opened lt)

      pub ends : n ≤ i → test s [] ≡ v
      ends h = sym (ap (test s) (left_none w n i l h)) ∙ inv
