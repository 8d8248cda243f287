-- A part of the text copied into the store, byte by byte: what is copied so far is a patch of the store.
-- Assumes nothing.
use Prim.Native.Nat.{ℕ, ◌+◌, ◌-◌, ◌≤◌, ◌<◌}
use native.Mathlib.Numerals.{add-one}
use native.Mathlib.Omega.{arith}
use mathlib.Core.Path.{◌≡◌, refl, sym, ap, ◌∙◌}
use mathlib.Core.List.{List, [], ◌∷◌, ◌++◌}
use lib.ListN.{length, take, drop, get_or, set, length-set}
use lib.Seq.{length-take-le, take-suc, take_all}
use Rattle.paper.specs.Tables.Lent.{patch}
use Rattle.paper.proofs.Lists.Parts.{part_length}
use Rattle.paper.proofs.Tables.Laws.{patch_in}
use Rattle.paper.proofs.Tables.Append.{patch_patch}
use Rattle.seek.proofs.Compare.{part_at}

pub record Copying (text store₀ store : List ℕ) (start end at i : ℕ) : Type 0 where
  pub within : end ≤ length text
  pub room : at + (end - start) ≤ length store₀
  pub upto : i ≤ end - start
  pub long : length store ≡ length store₀
  pub is : store ≡ patch at (take i (drop start (take end text))) store₀

pub copy_start : (text store : List ℕ) (start end at : ℕ) → end ≤ length text → at + (end - start) ≤ length store → Copying text store store start end at 0
copy_start text store start end at w h =
    record { within = w; room = h; upto = omega arith; long = refl; is = patch_in at [] store (omega arith) }

module _ {text store₀ store : List ℕ} {start end at i : ℕ} (z : Copying text store₀ store start end at i) where
  part_long : length (drop start (take end text)) ≡ end - start
  part_long = part_length text start end z.within

  pub copy_on : i < end - start → Copying text store₀ (set store (at + i) (get_or text (start + i) 0)) start end at (i + 1)
  copy_on lt =
      let a = part_long in
      let b : length (take i (drop start (take end text))) ≡ i = length-take-le i (drop start (take end text)) (omega arith) in
      let l = z.long in
      let r = z.room in
      record {
        within = z.within;
        room = z.room;
        upto = omega arith;
        long = length-set store (at + i) (get_or text (start + i) 0) ∙ z.long;
        is = patch_in (at + i) (get_or text (start + i) 0 ∷ []) store (omega arith)
            ∙ ap (patch (at + i) (get_or text (start + i) 0 ∷ [])) z.is
            ∙ patch_patch at (at + i) (take i (drop start (take end text))) (get_or text (start + i) 0 ∷ []) store₀ (omega arith) (omega arith)
            ∙ ap (λ p. patch at p store₀)
            (ap (λ y. take i (drop start (take end text)) ++ (y ∷ [])) (sym (part_at start end i text lt))
            ∙ sym (take-suc (drop start (take end text)) i 0 (omega arith))
            ∙ ap (λ k. take k (drop start (take end text))) (sym (add-one i)));
      }

  pub copy_done : end - start ≤ i → store ≡ patch at (drop start (take end text)) store₀
  copy_done h = z.is ∙ ap (λ p. patch at p store₀) (take_all i (drop start (take end text)) (omega (arith, part_long)))
