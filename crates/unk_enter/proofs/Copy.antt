-- Fields copied byte by byte, with NUL for each comma: what is copied so far is a patch of the room. Assumes nothing.
use Prim.Native.Nat.{ℕ, ◌+◌, ◌-◌, ◌≤◌, ◌<◌}
use native.Mathlib.Numerals.{add-one}
use native.Mathlib.Omega.{arith}
use mathlib.Core.Path.{◌≡◌, refl, sym, ap, ◌∙◌}
use mathlib.Core.List.{List, [], ◌∷◌, ◌++◌, map}
use lib.ListN.{length, take, drop, get_or, set, length-set, length-map, get_or-map}
use lib.Seq.{length-take-le, take-suc, take_all, get_or-drop, get_or-take}
use Rattle.paper.specs.Numbers.Bytes.{le}
use Rattle.paper.specs.Tables.Lent.{patch}
use Rattle.paper.proofs.Lists.Parts.{part_length}
use Rattle.paper.proofs.Tables.Laws.{patch_in}
use Rattle.paper.proofs.Tables.Append.{patch_patch}
use Rattle.unk_line.specs.Line.{joined_fields, as_joined, stored_fields}
use Rattle.unk_line.proofs.Joined.{joined_map, joined_long}
use Rattle.unk_enter.specs.Lines.{Inside}

pub record Copying (text room₀ room : List ℕ) (start end at i : ℕ) : Type 0 where
  pub inside : Inside text start end
  pub fits : at + (end - start) ≤ length room₀
  pub upto : i ≤ end - start
  pub long : length room ≡ length room₀
  pub is : room ≡ patch at (take i (map as_joined (drop start (take end text)))) room₀

pub copy_start : (text room : List ℕ) (start end at : ℕ) → Inside text start end → at + (end - start) ≤ length room → Copying text room room start end at 0
copy_start text room start end at w h = record { inside = w; fits = h; upto = omega arith; long = refl; is = patch_in at [] room (omega arith) }

module _ {text room₀ room : List ℕ} {start end at i : ℕ} (z : Copying text room₀ room start end at i) where
  abbrev copied : List ℕ
  copied = map as_joined (drop start (take end text))

  copied_long : length copied ≡ end - start
  copied_long = length-map (drop start (take end text)) as_joined ∙ part_length text start end z.inside.within

  copied_at : i < end - start → get_or copied i (as_joined 0) ≡ as_joined (get_or text (start + i) 0)
  copied_at h =
      get_or-map as_joined (drop start (take end text)) i 0
      ∙ ap as_joined (get_or-drop start (take end text) i 0 ∙ get_or-take end text (start + i) 0 (omega arith))

  pub copy_on : i < end - start → (b : ℕ) → b ≡ as_joined (get_or text (start + i) 0) → Copying text room₀ (set room (at + i) b) start end at (i + 1)
  copy_on lt b e =
      let a = copied_long in
      let d : length (take i copied) ≡ i = length-take-le i copied (omega arith) in
      let l = z.long in
      let r = z.fits in
      record {
        inside = z.inside;
        fits = z.fits;
        upto = omega arith;
        long = length-set room (at + i) b ∙ z.long;
        is = patch_in (at + i) (b ∷ []) room (omega arith)
            ∙ ap (patch (at + i) (b ∷ [])) z.is
            ∙ patch_patch at (at + i) (take i copied) (b ∷ []) room₀ (omega arith) (omega arith)
            ∙ ap (λ p. patch at p room₀)
            (ap (λ y. take i copied ++ (y ∷ [])) (e ∙ sym (copied_at lt))
            ∙ sym (take-suc copied i (as_joined 0) (omega arith))
            ∙ ap (λ k. take k copied) (sym (add-one i)));
      }

  pub copy_done : end - start ≤ i → room ≡ patch at (joined_fields (drop start (take end text))) room₀
  copy_done h =
      z.is ∙ ap (λ p. patch at p room₀) (take_all i copied (omega (arith, copied_long)) ∙ sym (joined_map (drop start (take end text))))

-- the length, and the fields behind it
pub length_and_fields : (text room₀ room₁ room₂ : List ℕ) (start end at len : ℕ) → Inside text start end → len ≡ end - start → at + 4 + (end - start) ≤ length room₀
    → room₁ ≡ patch at (le 4 len) room₀ → room₂ ≡ patch (at + 4) (joined_fields (drop start (take end text))) room₁
    → room₂ ≡ patch at (stored_fields (drop start (take end text))) room₀
unfolding stored_fields
length_and_fields text room₀ room₁ room₂ start end at len w e h p q =
    let a : length (joined_fields (drop start (take end text))) ≡ end - start = joined_long (drop start (take end text)) ∙ part_length text start end w.within in
    q ∙ ap (patch (at + 4) (joined_fields (drop start (take end text)))) p
    ∙ patch_patch at (at + 4) (le 4 len) (joined_fields (drop start (take end text))) room₀ refl (omega arith)
    ∙ ap (λ n. patch at (le 4 n ++ joined_fields (drop start (take end text))) room₀) (e ∙ sym a)
