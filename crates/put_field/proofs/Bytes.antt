-- A turn of a loop that puts fields of one width: one more field, and one more byte of a run.
-- Assumes nothing.
use Prim.Native.Nat.{ℕ, ◌+◌, ◌<◌}
use native.Mathlib.Numerals.{add-one}
use mathlib.Core.Path.{◌≡◌, sym, ap, ◌∙◌}
use mathlib.Core.List.{List, [], ◌∷◌, ◌++◌, map}
use lib.ListN.{length, take, get_or}
use lib.Seq.{take-suc}
use Rattle.paper.specs.Pack.Fields.{field}
use Rattle.paper.proofs.Lists.Facts.{map_append}

pub field_more : (w v : ℕ) (xs ys : List ℕ) (x : ℕ) → v ≡ w → ys ≡ xs ++ (x ∷ []) → map (field w) xs ++ (field v x ∷ []) ≡ map (field w) ys
field_more w v xs ys x d e = ap (λ k. map (field w) xs ++ (field k x ∷ [])) d ∙ sym (ap (map (field w)) e ∙ map_append (field w) xs (x ∷ []))

pub byte_more : (w v i b : ℕ) (l : List ℕ) → v ≡ w → i < length l → b ≡ get_or l i 0
    → map (field w) (take i l) ++ (field v b ∷ []) ≡ map (field w) (take (i + 1) l)
byte_more w v i b l d h e =
    field_more w v (take i l) (take (i + 1) l) b d (ap (λ k. take k l) (add-one i) ∙ take-suc l i 0 h ∙ ap (λ x. take i l ++ (x ∷ [])) (sym e))
