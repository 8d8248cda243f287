-- From an outcome to what C gets of it: five numbers written one behind another are the counts, and a refusal is one number.
-- Assumes nothing.
use Prim.Native.Nat.{ℕ, ◌+◌, ◌*◌, ◌≤◌}
use native.Mathlib.Omega.{arith}
use mathlib.Core.Path.{◌≡◌, refl, sym, ap, ◌∙◌}
use mathlib.Core.Bool.{Bool, true, false, cond}
use mathlib.Core.List.{List, ◌++◌}
use lib.ListN.{length}
use Rattle.paper.specs.Numbers.Bytes.{le, u16_size}
use Rattle.paper.specs.Tables.Lent.{zeroed, patch}
use Rattle.paper.specs.Tables.Reader.{clears}
use Rattle.paper.specs.declared.Counts.{Counts}
use Rattle.paper.specs.declared.Refusal.{Refusal}
use Rattle.paper.proofs.Tables.Append.{patch_patch}
use Rattle.exported.specs.Answer.{place_unit, code_of, counts_size, count_bytes, counts_after}
use Rattle.exported.specs.Room.{Gives}
use Rattle.std.specs.Prelude.{Err, Ok, Result}

-- ---- counts

pub count_patches : (a b c d e : ℕ) (l : List ℕ) → counts_size ≤ length l
    → patch 8 (le u16_size e) (patch 6 (le u16_size d) (patch 4 (le u16_size c) (patch 2 (le u16_size b) (patch 0 (le u16_size a) l))))
    ≡ patch 0 (count_bytes (record { categories = a; definitions = b; ranges = c; references = d; bytes = e })) l
unfolding count_bytes
count_patches a b c d e l h =
    let u = le u16_size in
    ap (λ x. patch 8 (u e) (patch 6 (u d) (patch 4 (u c) x))) (patch_patch 0 2 (u a) (u b) l refl (omega arith))
    ∙ ap (λ x. patch 8 (u e) (patch 6 (u d) x)) (patch_patch 0 4 (u a ++ u b) (u c) l refl (omega arith))
    ∙ ap (λ x. patch 8 (u e) x) (patch_patch 0 6 (u a ++ u b ++ u c) (u d) l refl (omega arith))
    ∙ patch_patch 0 8 (u a ++ u b ++ u c ++ u d) (u e) l refl (omega arith)

-- ---- an outcome as C gets it

module _ {x b : Bool} (u v : List ℕ) (e : x ≡ b) where
  pub taken_is : x ≡ true → {w : List ℕ} → w ≡ u → w ≡ cond b u v
  taken_is t h = h ∙ sym (ap (λ y. cond y u v) (sym e ∙ t))

  pub left_is : x ≡ false → v ≡ cond b u v
  left_is f = sym (ap (λ y. cond y u v) (sym e ∙ f))

module _ (o : Result Counts Refusal) (before after : List ℕ) where
  pub gives_counts : (n : Counts) → o ≡ Ok n → after ≡ patch 0 (count_bytes n) before → Gives o before after 0
  unfolding counts_after
  gives_counts n e h = record { number = sym (ap code_of e); counts = h ∙ sym (ap (λ x. counts_after x before) e) }

  pub gives_refusal : (x : Refusal) (r : ℕ) → o ≡ Err x → after ≡ cond (clears x.number) (zeroed counts_size before) before
      → r ≡ x.number + place_unit * x.place → Gives o before after r
  unfolding counts_after
  gives_refusal x r e h k = record { number = k ∙ sym (ap code_of e); counts = h ∙ sym (ap (λ y. counts_after y before) e) }
