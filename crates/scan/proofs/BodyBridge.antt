-- On UTF-8 the body of a line's bytes is the body of its characters, since no byte of a character from U+0080 on is `#`.
-- Assumes nothing.
use Prim.Native.Nat.{ℕ, ◌≤◌}
use native.Mathlib.Omega.{arith}
use mathlib.Core.Path.{◌≡◌, refl, sym, ap, ◌∙◌, subst}
use mathlib.Core.Bool.{Bool, true, false, cond}
use mathlib.Core.List.{List, [], ◌∷◌, map}
use lib.Dec.{T, leb, eqb}
use mir.Facts.{and_yes, yes_and, leb_yes}
use borrow.Author.Tests.{eqb-true, ne_eqb}
use Rattle.paper.specs.Lists.{all, until, trim_start, trim_end}
use Rattle.paper.specs.Text.Scalar.{is_white, utf8, hash}
use Rattle.paper.specs.CharDef.Line.{is_hash}
use Rattle.paper.specs.Computed.Decode.{is_tail}
use Rattle.paper.specs.Computed.ReadText.{body}
use Rattle.paper.proofs.Lists.Facts.{un}
use Rattle.text.specs.Answers.{white_width}
use Rattle.scan.specs.Marks.{byte, in_gap, hash_mark, body_bytes}
use Rattle.scan.proofs.Spread.{Agrees, until_spread, trim_start_spread, trim_end_spread}
use Rattle.scan.proofs.Widths.{white_lead, white_tail}
use Rattle.scan.proofs.Bridge.{low, high, front, tag, tagged, alike_gap, byte_spread, marks_utf8}

not_hash : (b : ℕ) → 0x80 ≤ b → eqb b hash ≡ false
not_hash b h = ne_eqb b hash (λ e. omega arith)

no_hash_lem : (w : Bool) (l : List ℕ) → T (all is_tail l) → T (all (un hash_mark) (tag w l))
no_hash_lem w [] a = tt
no_hash_lem w (b ∷ l) a =
    let h = and_yes (is_tail b) (all is_tail l) a in
    let k : 0x80 ≤ b = leb_yes (and_yes (leb 0x80 b) (leb b 0xBF) h.0).0 in
    yes_and (un hash_mark (b, w)) (all (un hash_mark) (tag w l)) (rw (not_hash b k) tt) (no_hash_lem w l h.1)

alike_hash : (c : ℕ) → Agrees hash_mark (tagged is_white c) (is_hash c)
unfolding is_white
alike_hash c = elim (front c) [
  | low h e ↦ rw e (ascii (eqb c hash) refl)
  | high h a u e k t ↦ rw (e, not_hash c h) (yes_and (un hash_mark (a, is_white c)) _ (rw (not_hash a k) tt) (no_hash_lem (is_white c) u t))
]
  where
    ascii : (x : Bool) → eqb c hash ≡ x → Agrees hash_mark ((c, is_white c) ∷ []) x
    ascii true e = rw (eqb-true c hash e) tt
    ascii false e = rw e tt

-- a `#` is no white space, so it does not matter which is looked for first
swap : (cs : List ℕ) → until is_hash (trim_start is_white cs) ≡ trim_start is_white (until is_hash cs)
unfolding is_white
swap [] = refl
swap (c ∷ cs) = go (is_white c) (eqb c hash) refl refl (swap cs)
  where
    clash : eqb c hash ≡ true → is_white c ≡ true → ⊥
    clash e f = subst T (sym f ∙ ap is_white (eqb-true c hash e)) tt

    go : (w h : Bool) → is_white c ≡ w → eqb c hash ≡ h → until is_hash (trim_start is_white cs) ≡ trim_start is_white (until is_hash cs)
        → until is_hash (cond w (trim_start is_white cs) (c ∷ cs)) ≡ trim_start is_white (cond h [] (c ∷ until is_hash cs))
    go true true e f ih = absurd (clash f e)
    go true false e f ih = rw e ih
    go false true e f ih = rw f
    go false false e f ih = rw (f, e)

pub body_utf8 : (cs : List ℕ) → body_bytes (utf8 cs) ≡ utf8 (body cs)
unfolding body_bytes body
body_utf8 cs =
    ap (λ m. map byte (trim_end in_gap (until hash_mark (trim_start in_gap m)))) (marks_utf8 white_width is_white white_lead white_tail cs)
    ∙ ap (λ m. map byte (trim_end in_gap (until hash_mark m))) (trim_start_spread (tagged is_white) in_gap is_white (alike_gap is_white) cs)
    ∙ ap (λ m. map byte (trim_end in_gap m)) (until_spread (tagged is_white) hash_mark is_hash alike_hash (trim_start is_white cs))
    ∙ ap (map byte) (trim_end_spread (tagged is_white) in_gap is_white (alike_gap is_white) (until is_hash (trim_start is_white cs)))
    ∙ byte_spread is_white (trim_end is_white (until is_hash (trim_start is_white cs)))
    ∙ ap (λ l. utf8 (trim_end is_white l)) (swap cs)
