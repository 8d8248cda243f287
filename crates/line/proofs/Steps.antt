-- Two bytes in front of a part, and the pieces between `..`.
-- Assumes nothing.
use Prim.Native.Nat.{ℕ, ◌+◌, ◌-◌, ◌≤◌, ◌<◌}
use native.Mathlib.Omega.{arith}
use native.Mathlib.Numerals.{add-one}
use native.Mathlib.Decide.{dec_le}
use mathlib.Core.Path.{◌≡◌, refl, sym, ap, ap₂, ◌∙◌}
use mathlib.Core.Bool.{Bool, true, false, ◌&&◌}
use mathlib.Core.List.{List, [], ◌∷◌, ◌++◌}
use lib.Dec.{eqb}
use lib.ListN.{length, take, drop, get_or}
use lib.Seq.{length-take-le, take-suc, drop-append-le}
use borrow.Author.Tests.{eq-eqb, ne_eqb, eqb-true, eqb-false}
use Rattle.std.specs.Cmp.Lexicographic.{pointwise}
use Rattle.std.specs.List.{between}
use Rattle.std.proofs.lemmas.Slice.{between_is}
use Rattle.std.proofs.Math.Bool.{and-true}
use Rattle.paper.specs.Lists.{push}
use Rattle.paper.specs.Text.Scalar.{dot, digit0, letter_x}
use Rattle.paper.specs.CharDef.Line.{begins0x}
use Rattle.paper.specs.Computed.ReadText.{parts}
use Rattle.paper.proofs.Lists.Facts.{and_false, push_all, push_all_first}
use Rattle.paper.proofs.Lists.Parts.{nothing, uncons}
use Rattle.line.specs.Asked.{Cut, Uncut}
use Rattle.line.proofs.LineBridge.{parts_off, parts_off₂}

-- ---- two bytes in front

module _ (l : List ℕ) (at end : ℕ) where
  one : at < end → end - at < 2 → end ≤ length l → drop at (take end l) ≡ get_or l at 0 ∷ []
  one h m k = uncons l at end h k ∙ ap (λ s. get_or l at 0 ∷ s) (nothing l (at + 1) end (omega arith))

  two : at + 1 < end → end ≤ length l → drop at (take end l) ≡ get_or l at 0 ∷ get_or l (at + 1) 0 ∷ drop (at + 2) (take end l)
  two h k =
      let e : at + 1 + 1 ≡ at + 2 = omega arith in
      uncons l at end (omega arith) k ∙ ap (λ s. get_or l at 0 ∷ s) (uncons l (at + 1) end h k ∙ ap (λ n. get_or l (at + 1) 0 ∷ drop n (take end l)) e)

eqb_sym : (a b : ℕ) → eqb a b ≡ eqb b a
eqb_sym a b = go (eqb b a) refl
  where
    go : (x : Bool) → eqb b a ≡ x → eqb a b ≡ x
    go true e = eq-eqb a b (sym (eqb-true b a e))
    go false e = ne_eqb a b (λ q. eqb-false b a e (sym q))

begins : (s : List ℕ) → pointwise eqb (digit0 ∷ letter_x ∷ []) (take 2 s) ≡ begins0x s
begins [] = refl
begins (a ∷ []) = and_false (eqb digit0 a)
begins (a ∷ b ∷ s) = ap₂ ◌&&◌ (eqb_sym digit0 a) (and-true (eqb letter_x b) ∙ eqb_sym letter_x b)

pub begins_part : (l : List ℕ) (start end : ℕ) → pointwise eqb (digit0 ∷ letter_x ∷ []) (take 2 (between start end l)) ≡ begins0x (drop start (take end l))
begins_part l start end = begins (between start end l) ∙ ap begins0x (between_is l start end)

add_two : (n : ℕ) → n + 1 + 1 ≡ n + 2
add_two n = omega arith

-- ---- the pieces between `..`

push_all_more : (s : List ℕ) (x : ℕ) (q : List (List ℕ)) → push_all (s ++ (x ∷ [])) q ≡ push_all s (push x q)
push_all_more [] x q = refl
push_all_more (y ∷ s) x q = ap (push y) (push_all_more s x q)

module _ (l : List ℕ) (start at : ℕ) (h : start ≤ at) (k : at < length l) where
  part_more : drop start (take (at + 1) l) ≡ drop start (take at l) ++ (get_or l at 0 ∷ [])
  part_more =
      let n : start ≤ length (take at l) = omega (arith, length-take-le at l (omega arith)) in
      ap (λ m. drop start (take m l)) (add-one at) ∙ ap (drop start) (take-suc l at 0 k) ∙ drop-append-le start (take at l) (get_or l at 0 ∷ []) n

  more : (q : List (List ℕ)) → push_all (drop start (take at l)) (push (get_or l at 0) q) ≡ push_all (drop start (take (at + 1) l)) q
  more q = sym (ap (λ s. push_all s q) part_more ∙ push_all_more (drop start (take at l)) (get_or l at 0) q)

-- where the scan stands: what it passed, in front of the pieces of what is left
abbrev pub Passed : List ℕ → ℕ → ℕ → ℕ → Type 0
Passed l start end at = parts (drop start (take end l)) ≡ push_all (drop start (take at l)) (parts (drop at (take end l)))

module _ (l : List ℕ) (start end : ℕ) (m : end ≤ length l) where
  pub passed_none : Passed l start end start
  passed_none = sym (ap (λ s. push_all s (parts (drop start (take end l)))) (nothing l start start (omega arith)))

  passed_all : (at : ℕ) → at ≡ end → Passed l start end at → Uncut l start end
  passed_all at e p = record {
    pieces =
        p ∙ ap (λ s. push_all (drop start (take at l)) (parts s)) (nothing l at end (omega arith)) ∙ push_all_first (λ x. true) (drop start (take at l)) []
        ∙ ap (λ n. drop start (take n l) ∷ []) e;
  }

  module _ (at : ℕ) (h : start ≤ at) (p : Passed l start end at) where
    step : at < end → parts (drop at (take end l)) ≡ push (get_or l at 0) (parts (drop (at + 1) (take end l))) → Passed l start end (at + 1)
    step k e = p ∙ ap (push_all (drop start (take at l))) e ∙ more l start at h (omega arith) (parts (drop (at + 1) (take end l)))

    passed_last : at < end → end - at < 2 → Uncut l start end
    passed_last k n =
        let e : at + 1 ≡ end = omega arith in
        passed_all (at + 1) e
        (step k (ap parts (one l at end k n m) ∙ ap (λ s. push (get_or l at 0) (parts s)) (sym (nothing l (at + 1) end (omega arith)))))

    -- no `..` begins at the last byte
    pub passed_end : end ≤ at + 1 → at ≤ end → Uncut l start end
    passed_end k n = elim (dec_le end at) [
      | yes e ↦ passed_all at (omega arith) p
      | no e ↦ passed_last (omega arith) (omega arith)
    ]

    pub passed_other : at < end → (get_or l at 0 ≡ dot → ⊥) → Passed l start end (at + 1)
    passed_other k n =
        step k (ap parts (uncons l at end k m) ∙ parts_off (get_or l at 0) (drop (at + 1) (take end l)) (ne_eqb (get_or l at 0) dot n))

    pub passed_dot : at + 1 < end → (get_or l (at + 1) 0 ≡ dot → ⊥) → Passed l start end (at + 1)
    passed_dot k n =
        step (omega arith)
        (ap parts (two l at end k m) ∙ parts_off₂ (get_or l at 0) (get_or l (at + 1) 0) (drop (at + 2) (take end l)) (ne_eqb (get_or l (at + 1) 0) dot n)
        ∙ ap (λ s. push (get_or l at 0) (parts s)) (sym (uncons l (at + 1) end k m ∙ ap (λ i. get_or l (at + 1) 0 ∷ drop i (take end l)) (add_two at))))

    pub passed_found : at + 1 < end → get_or l at 0 ≡ dot → get_or l (at + 1) 0 ≡ dot → Cut l start end at
    passed_found k e f = record {
      from = h;
      within = omega arith;
      pieces =
          p ∙ ap (λ s. push_all (drop start (take at l)) (parts s)) (two l at end k m) ∙ ap (push_all (drop start (take at l))) (rw (e, f))
          ∙ push_all_first (λ x. true) (drop start (take at l)) (parts (drop (at + 2) (take end l)));
    }
