-- The first field of a range line: its parts, as the relation has them, are the parts computed, and a bound is bad by the number computed.
-- The first `..` of a field is before every other, so a field is parted in one way.
-- Assumes nothing.
use Prim.Native.Nat.{ℕ, zero-le}
use mathlib.Core.Path.{◌≡◌, refl, sym, ap, ◌∙◌, subst}
use mathlib.Core.Bool.{Bool, true, false, cond, ◌||◌}
use mathlib.Core.Option.{Option, none, some}
use mathlib.Core.List.{List, [], ◌∷◌, ◌++◌, append_assoc, append-nil}
use lib.Dec.{eqb}
use borrow.Author.Tests.{eqb-true, eqb-false}
use Rattle.paper.specs.Sizes.{max_u16}
use Rattle.paper.specs.Refusals.{range_parts, bound_unreadable, bound_mark}
use Rattle.paper.specs.Text.Scalar.{dot, byte_order_mark, swapped_mark}
use Rattle.paper.specs.Numbers.Numeral.{hexadecimal}
use Rattle.paper.specs.CharDef.Line.{stands_for, Bound}
use Rattle.paper.specs.CharDef.BadLine.{NoDots, Parts, one_part, two_parts, ThreeParts, Hex16, BadBound, no_hex, mark, swapped}
use Rattle.paper.specs.Computed.Numeral.{numeral}
use Rattle.paper.specs.Computed.ReadText.{wrong, BoundFound, bound_is, no_bound, strip0x, parts, checked_bound, bound_of, from_bounds, from_parts}
use Rattle.paper.proofs.Apart.{none_some}
use Rattle.paper.proofs.Numbers.Read.{numeral_sound, numeral_read, hex_small}
use Rattle.paper.proofs.CharDef.Dots.{Cuts, uncut, cut_at, parts_cuts, no_dots_tail}
use Rattle.paper.proofs.CharDef.Complete.{strip_all, no_0x}
use Rattle.paper.proofs.CharDef.Sound.{strip_rest}

-- ---- parts

-- the first `..` is before every other
first_dots : (l r a s : List ℕ) → NoDots (l ++ (dot ∷ [])) → l ++ (dot ∷ dot ∷ r) ≡ a ++ (dot ∷ dot ∷ s)
    → (t : List ℕ) × (a ≡ l ++ t) × (dot ∷ dot ∷ r ≡ t ++ (dot ∷ dot ∷ s))
first_dots [] r a s n e = (a, refl, e)
first_dots (x ∷ []) r [] s n e =
    let i : x ∷ dot ∷ [] ≡ dot ∷ dot ∷ [] = cc in
    absurd (n [] [] i)
first_dots (x ∷ y ∷ l) r [] s n e =
    let i : x ∷ y ∷ (l ++ (dot ∷ [])) ≡ dot ∷ dot ∷ (l ++ (dot ∷ [])) = cc in
    absurd (n [] (l ++ (dot ∷ [])) i)
first_dots (x ∷ l) r (y ∷ a) s n e =
    let h : x ≡ y = cc in
    let k : l ++ (dot ∷ dot ∷ r) ≡ a ++ (dot ∷ dot ∷ s) = cc in
    let (t, i, j) = first_dots l r a s (no_dots_tail x (l ++ (dot ∷ [])) n) k in
    (t, cc, j)

-- what stands behind the first `..`, where another one stands behind it
second_dots : (t r b c : List ℕ) → dot ∷ dot ∷ r ≡ t ++ (dot ∷ dot ∷ (b ++ (dot ∷ dot ∷ c))) → NoDots r → ⊥
second_dots [] r b c e n = let i : r ≡ b ++ (dot ∷ dot ∷ c) = cc in n b c i
second_dots (x ∷ []) r b c e n = let i : r ≡ (dot ∷ b) ++ (dot ∷ dot ∷ c) = cc in n (dot ∷ b) c i
second_dots (x ∷ y ∷ t) r b c e n =
    let i : r ≡ t ++ (dot ∷ dot ∷ (b ++ (dot ∷ dot ∷ c))) = cc in
    n (t ++ (dot ∷ dot ∷ b)) c (i ∙ sym (append_assoc t (dot ∷ dot ∷ b) (dot ∷ dot ∷ c)))

same_dots : (l r m s t : List ℕ) → NoDots (m ++ (dot ∷ [])) → m ≡ l ++ t → dot ∷ dot ∷ r ≡ t ++ (dot ∷ dot ∷ s) → (l ≡ m) × (r ≡ s)
same_dots l r m s [] n i j = (sym (i ∙ append-nil l), cc)
same_dots l r m s (x ∷ []) n i j =
    let h : x ∷ dot ∷ [] ≡ dot ∷ dot ∷ [] = cc in
    absurd (n l [] (ap (λ k. k ++ (dot ∷ [])) i ∙ append_assoc l (x ∷ []) (dot ∷ []) ∙ ap (λ k. l ++ k) h))
same_dots l r m s (x ∷ y ∷ t) n i j =
    let h : x ∷ y ∷ (t ++ (dot ∷ [])) ≡ dot ∷ dot ∷ (t ++ (dot ∷ [])) = cc in
    absurd (n l (t ++ (dot ∷ [])) (ap (λ k. k ++ (dot ∷ [])) i ∙ append_assoc l (x ∷ y ∷ t) (dot ∷ []) ∙ ap (λ k. l ++ k) h))

cuts_one : {cs : List ℕ} {ls ms : List (List ℕ)} → Cuts cs ls → Cuts cs ms → ls ≡ ms
cuts_one (uncut n) (uncut m) = refl
cuts_one (uncut n) (cut_at {l = l} r e m q) = absurd (n l r e)
cuts_one (cut_at {l = l} r e n q) (uncut m) = absurd (m l r e)
cuts_one (cut_at {l = l} {ls = ls} r e n q) (cut_at {l = k} {ls = ms} s d m p) =
    let (t, i, j) = first_dots l r k s n (sym e ∙ d) in
    let (a, b) = same_dots l r k s t m i j in
    let later : ls ≡ ms = cuts_one q (subst (λ x. Cuts x ms) (sym b) p) in
    cc

-- three parts or more are computed as such
pub many_wrong : {cs : List ℕ} {ls : List (List ℕ)} (names : List (List ℕ)) → ThreeParts cs → Cuts cs ls → from_parts ls names ≡ wrong range_parts
unfolding from_parts
many_wrong names t (uncut n) = absurd (n t.first (t.second ++ (dot ∷ dot ∷ t.others)) t.whole)
many_wrong names t (cut_at {l = l} r e n (uncut m)) =
    let (k, i, j) = first_dots l r t.first (t.second ++ (dot ∷ dot ∷ t.others)) n (sym e ∙ t.whole) in
    absurd (second_dots k r t.second t.others j m)
many_wrong names t (cut_at r e n (cut_at s d m (uncut k))) = refl
many_wrong names t (cut_at r e n (cut_at s d m (cut_at u i k q))) = refl

-- and one or two as the bounds
pub parts_bounds : {bounds lower upper : List ℕ} (names : List (List ℕ)) → Parts bounds lower upper
    → from_parts (parts bounds) names ≡ from_bounds (bound_of lower) (bound_of upper) names
unfolding from_parts
parts_bounds {bounds} names (one_part n a b) =
    let p : parts bounds ≡ bounds ∷ [] = cuts_one (parts_cuts bounds) (uncut n) in
    rw (p, a, b)
parts_bounds {bounds} {lower} {upper} names (two_parts e n m) =
    let p : parts bounds ≡ lower ∷ upper ∷ [] = cuts_one (parts_cuts bounds) (cut_at upper e n (uncut m)) in
    rw p

-- ---- codes

pub hex_read : {part : List ℕ} {code : ℕ} → Hex16 part code → numeral hexadecimal max_u16 (strip0x part) ≡ some code
hex_read h = rw (h.whole, strip_all h.times h.numeral (no_0x h.number)) (numeral_read hexadecimal max_u16 hex_small h.number)

pub hex_found : (part : List ℕ) (code : ℕ) → numeral hexadecimal max_u16 (strip0x part) ≡ some code → Hex16 part code
hex_found part code h =
    let (k, e, least) = strip_rest part in
    record { times = k; numeral = strip0x part; whole = e; number = numeral_sound hexadecimal max_u16 (strip0x part) code h }

-- a bound, or what is wrong with it
pub data Judged (part : List ℕ) : BoundFound → Type 0 where
  good : {b : ℕ} → Bound 0 part b → Judged part (bound_is b)
  bad : {n : ℕ} → BadBound part n → Judged part (no_bound n)

pub judged : (part : List ℕ) → Judged part (bound_of part)
unfolding bound_of
judged part = go (numeral hexadecimal max_u16 (strip0x part)) refl
  where
    some_case : (c : ℕ) → Hex16 part c → (x y : Bool) → eqb c byte_order_mark ≡ x → eqb c swapped_mark ≡ y
        → Judged part (cond (x || y) (no_bound bound_mark) (bound_is (stands_for c)))
    some_case c h true y ex ey = bad (mark (subst (Hex16 part) (eqb-true c byte_order_mark ex) h))
    some_case c h false true ex ey = bad (swapped (subst (Hex16 part) (eqb-true c swapped_mark ey) h))
    some_case c h false false ex ey =
        good (record {
          times = h.times;
          numeral = h.numeral;
          code = c;
          whole = h.whole;
          enough = zero-le;
          number = h.number;
          no_mark = eqb-false c byte_order_mark ex;
          no_swap = eqb-false c swapped_mark ey;
          says = refl;
        })

    go : (o : Option ℕ) → numeral hexadecimal max_u16 (strip0x part) ≡ o → Judged part (checked_bound o)
    go none e = bad (no_hex (λ code h. none_some (sym e ∙ hex_read h)))
    go (some c) e = some_case c (hex_found part c e) (eqb c byte_order_mark) (eqb c swapped_mark) refl refl

pub bad_read : {part : List ℕ} {n : ℕ} → BadBound part n → bound_of part ≡ no_bound n
unfolding bound_of checked_bound
bad_read {part} (no_hex f) = go (numeral hexadecimal max_u16 (strip0x part)) refl
  where
    go : (o : Option ℕ) → numeral hexadecimal max_u16 (strip0x part) ≡ o → checked_bound o ≡ no_bound bound_unreadable
    go none e = refl
    go (some c) e = absurd (f c (hex_found part c e))
bad_read (mark h) = rw (hex_read h)
bad_read (swapped h) = rw (hex_read h)
