-- The position of a byte is how many bytes stand before it; and a part that reaches past the text is cut at its end. Assumes nothing.
use Prim.Native.Nat.{ℕ, ◌+◌}
use native.Mathlib.Omega.{arith}
use mathlib.Core.Path.{◌≡◌, refl, sym, ap, ◌∙◌}
use mathlib.Core.Bool.{Bool, true, false, cond}
use mathlib.Core.List.{List, ◌∷◌, []}
use lib.Dec.{ltb}
use lib.ListN.{length, take}
use borrow.Author.Tests.{ltb-false}
use Rattle.std.specs.Prelude.{Option, Some, None}
use Rattle.std.specs.Option.{unwrap_or}
use Rattle.std.specs.List.{position_or_len}
use Rattle.std.proofs.lemmas.List.Recursion.{is_position_or_len}
use Rattle.paper.specs.Lists.{until}
use Rattle.paper.proofs.Lists.Parts.{clamp}
use Rattle.numeral.specs.Asked.{Least}
use Rattle.unk_line.proofs.Commas.{until_length}

until_is : (p : ℕ → Bool) (l : List ℕ) → length (until p l) ≡ position_or_len p l
until_is p = is_position_or_len (λ (l : List ℕ). length (until p l)) p refl (λ x xs. go x xs (p x))
  where
    go : (x : ℕ) (xs : List ℕ) (b : Bool) → length (cond b [] (x ∷ until p xs)) ≡ cond b 0 (1 + length (until p xs))
    go x xs true = refl
    go x xs false = omega arith

pub found_or_end : (p : ℕ → Bool) (l : List ℕ) {r : Option ℕ} → r ≡ cond (ltb (position_or_len p l) (length l)) (Some (position_or_len p l)) None
    → unwrap_or r (length l) ≡ length (until p l)
found_or_end p l e = ap (λ o. unwrap_or o (length l)) e ∙ go (ltb (position_or_len p l) (length l)) refl
  where
    go : (b : Bool) → ltb (position_or_len p l) (length l) ≡ b → unwrap_or (cond b (Some (position_or_len p l)) None) (length l) ≡ length (until p l)
    go true e = sym (until_is p l)
    go false e = let h = ltb-false (position_or_len p l) (length l) e in omega (arith, until_is p l, until_length p l)

-- a part that reaches past the text is cut at its end
pub cut_at_end : (text : List ℕ) (end : ℕ) {r : ℕ} → Least end (length text) r → take r text ≡ take end text
cut_at_end text end {r} l = clamp text end r l.one l.other l.first
