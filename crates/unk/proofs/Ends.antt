-- Where a line stops: one CR directly before LF is dropped, and no other. Assumes nothing.
use Prim.Native.Nat.{ℕ, suc, ◌-◌, ◌≤◌, ◌<◌}
use native.Mathlib.Numerals.{add-one}
use native.Mathlib.Omega.{arith}
use mathlib.Core.Path.{◌≡◌, refl, sym, ap, ◌∙◌}
use mathlib.Core.Bool.{Bool, true, false, cond}
use mathlib.Core.List.{List, [], ◌∷◌, ◌++◌}
use lib.ListN.{length, take, drop, get_or}
use lib.Seq.{take-suc, drop-append-le, length-take-le}
use borrow.Author.Tests.{eq-eqb, ne_eqb}
use Rattle.paper.specs.Lists.{is}
use Rattle.paper.specs.Text.Scalar.{cr}
use Rattle.paper.specs.Computed.ReadUnk.{drop_cr}
use Rattle.paper.proofs.Lists.Parts.{nothing}
use Rattle.unk_enter.specs.Lines.{Inside}
use Rattle.unk.specs.Walk.{LineStops}

-- ---- the last byte of a line

drop_last : (l : List ℕ) (x : ℕ) → drop_cr (l ++ (x ∷ [])) ≡ cond (is cr x) l (l ++ (x ∷ []))
drop_last [] x = refl
drop_last (a ∷ []) x = go (is cr x)
  where
    go : (b : Bool) → a ∷ cond b [] (x ∷ []) ≡ cond b (a ∷ []) (a ∷ x ∷ [])
    go true = refl
    go false = refl
drop_last (a ∷ b ∷ l) x = ap (λ r. a ∷ r) (drop_last (b ∷ l) x) ∙ go (is cr x)
  where
    go : (t : Bool) → a ∷ cond t (b ∷ l) ((b ∷ l) ++ (x ∷ [])) ≡ cond t (a ∷ b ∷ l) (a ∷ (b ∷ l) ++ (x ∷ []))
    go true = refl
    go false = refl

module _ (text : List ℕ) (start end : ℕ) where
  last_split : start < end → end ≤ length text → drop start (take end text) ≡ drop start (take (end - 1) text) ++ (get_or text (end - 1) 0 ∷ [])
  last_split h w =
      let e : end ≡ suc (end - 1) = omega (arith, add-one (end - 1)) in
      let l : length (take (end - 1) text) ≡ end - 1 = length-take-le (end - 1) text (omega arith) in
      ap (λ n. drop start (take n text)) e
      ∙ ap (drop start) (take-suc text (end - 1) 0 (omega arith))
      ∙ drop-append-le start (take (end - 1) text) (get_or text (end - 1) 0 ∷ []) (omega arith)

  module _ (i : Inside text start end) where
    pub stops_last : length text ≤ end → LineStops text start end end
    stops_last h = record { from = i.order; upto = omega arith; last = λ _. refl; before_LF = λ g. absurd (omega arith) }

    pub stops_empty : end ≤ start → LineStops text start end end
    stops_empty h =
        record { from = i.order; upto = omega arith; last = λ _. refl; before_LF = λ _. nothing text start end h ∙ sym (ap drop_cr (nothing text start end h)) }

    module _ (more : end < length text) (some : start < end) where
      pub stops_CR : get_or text (end - 1) 0 ≡ cr → LineStops text start end (end - 1)
      stops_CR e =
          record {
            from = omega arith;
            upto = omega arith;
            last = λ g. absurd (omega arith);
            before_LF = λ _. sym
                (ap drop_cr (last_split some (omega arith)) ∙ drop_last (drop start (take (end - 1) text)) (get_or text (end - 1) 0)
                ∙ ap (λ b. cond b (drop start (take (end - 1) text)) (drop start (take (end - 1) text) ++ (get_or text (end - 1) 0 ∷ []))) (eq-eqb (get_or text (end - 1) 0) cr e));
          }

      pub stops_other : (get_or text (end - 1) 0 ≡ cr → ⊥) → LineStops text start end end
      stops_other n =
          record {
            from = i.order;
            upto = omega arith;
            last = λ g. absurd (omega arith);
            before_LF = λ _. sym
                (ap drop_cr (last_split some (omega arith)) ∙ drop_last (drop start (take (end - 1) text)) (get_or text (end - 1) 0)
                ∙ ap (λ b. cond b (drop start (take (end - 1) text)) (drop start (take (end - 1) text) ++ (get_or text (end - 1) 0 ∷ []))) (ne_eqb (get_or text (end - 1) 0) cr n)
                ∙ sym (last_split some (omega arith)));
          }
