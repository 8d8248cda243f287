-- A turn of the loops over name slots and range slots, and over entries that are tested each by itself: what the code reads of
-- an entry, and what its tests say of the paper's.
-- Assumes nothing.
use Prim.Native.Nat.{ℕ, suc, ◌+◌, ◌*◌, ◌≤◌, ◌<◌}
use native.Mathlib.Nat.{mul-suc, mul-le-mul_left}
use native.Mathlib.Omega.{arith}
use mathlib.Core.Path.{◌≡◌, refl, sym, ap, ◌∙◌}
use mathlib.Core.Bool.{Bool, true, false, ◌&&◌, and_assoc}
use mathlib.Core.List.{List, [], ◌∷◌, map}
use lib.Dec.{T, leb, ltb, eqb}
use lib.ListN.{length}
use mir.Facts.{and_yes, yes_and, leb_yes, yes_leb, ltb_yes, yes_ltb, eqb_yes, yes_eqb}
use Rattle.paper.specs.Lists.{all}
use Rattle.paper.specs.Computed.HandedIn.{name_slots_stand, slots_stand}
use Rattle.paper.specs.Pack.Rules.{is_bound}
use Rattle.paper.specs.Tables.Layout.{pieces, name_slot_of, slot_of}
use Rattle.paper.specs.Tables.Lent.{num, got}
use Rattle.paper.proofs.Tables.Laws.{got_in, num_part, left}
use Rattle.table_rules.proofs.Turn.{entry, begins, fails, goes, ends}

-- a number of an entry, as the code reads it
pub field_got : (v k w i : ℕ) (l : List ℕ) → k + v ≤ w → w * i + w ≤ length l → got v (w * i + k) l ≡ num v k (entry w i l)
field_got v k w i l h long = got_in v (w * i + k) l (omega arith) ∙ sym (num_part v k w (w * i) l h)

pub first_got : (v w i : ℕ) (l : List ℕ) → v ≤ w → w * i + w ≤ length l → got v (w * i) l ≡ num v 0 (entry w i l)
first_got v w i l h long =
    let e : w * i ≡ w * i + 0 = omega arith in
    ap (λ k. got v k l) e ∙ field_got v 0 w i l (omega arith) long

-- entry i is there
pub inside : (w i n : ℕ) (l : List ℕ) → i < n → w * n ≤ length l → w * i + w ≤ length l
inside w i n l lt long =
    let a : w * suc i ≤ w * n = mul-le-mul_left w lt in
    let b : w * suc i ≡ w * i + w = mul-suc w i in
    omega arith

-- ---- name slots

pub record NameStands (total at start len : ℕ) : Type 0 where
  pub here : start ≡ at
  pub some : 0 < len
  pub fits : at + len ≤ total

abbrev pub names_test : ℕ → ℕ → List (List ℕ) → Bool
names_test total at ps = name_slots_stand total at (map name_slot_of ps)

name_test : ℕ → ℕ → List ℕ → Bool
name_test total at p = eqb (num 2 0 p) at && (ltb 0 (num 2 2 p) && leb (at + num 2 2 p) total)

abbrev name_next : ℕ → List ℕ → ℕ
name_next at p = at + num 2 2 p

name_more : (total at : ℕ) (p : List ℕ) (ps : List (List ℕ)) → names_test total at (p ∷ ps) ≡ (name_test total at p && names_test total (name_next at p) ps)
unfolding name_slots_stand name_test
name_more total at p ps =
    let a : Bool = eqb (num 2 0 p) at in
    let b : Bool = ltb 0 (num 2 2 p) in
    let c : Bool = leb (at + num 2 2 p) total in
    let r : Bool = names_test total (at + num 2 2 p) ps in
    sym (and_assoc a (b && c) r ∙ ap (λ x. a && x) (and_assoc b c r))

name_says : (total at : ℕ) (p : List ℕ) → T (name_test total at p) → NameStands total at (num 2 0 p) (num 2 2 p)
unfolding name_test
name_says total at p t =
    let a = and_yes (eqb (num 2 0 p) at) _ t in
    let b = and_yes (ltb 0 (num 2 2 p)) (leb (at + num 2 2 p) total) a.1 in
    record { here = eqb_yes a.0; some = ltb_yes b.0; fits = leb_yes b.1 }

says_name : (total at : ℕ) (p : List ℕ) → NameStands total at (num 2 0 p) (num 2 2 p) → T (name_test total at p)
unfolding name_test
says_name total at p s =
    yes_and (eqb (num 2 0 p) at) _ (yes_eqb s.here)
    (yes_and (ltb 0 (num 2 2 p)) (leb (at + num 2 2 p) total) (yes_ltb s.some) (yes_leb s.fits))

pub names_begin : (total : ℕ) (l : List ℕ) (n : ℕ) → names_test total 0 (left 4 n 0 l) ≡ names_test total 0 (pieces 4 n l)
names_begin total l n = begins 4 (names_test total) (name_test total) name_next (name_more total) l n 0

pub names_end : (total : ℕ) (l : List ℕ) (n i at : ℕ) (v : Bool) → names_test total at (left 4 n i l) ≡ v → n ≤ i → eqb at total ≡ v
unfolding name_slots_stand
names_end total l n i at v inv h = ends 4 (names_test total) (name_test total) name_next (name_more total) l n i at v inv h

module _
    (total : ℕ)
    (l : List ℕ)
    (n i at start len : ℕ)
    (v : Bool)
    (inv : names_test total at (left 4 n i l) ≡ v)
    (lt : i < n)
    (long : 4 * n ≤ length l)
    (es : start ≡ got 2 (4 * i) l)
    (el : len ≡ got 2 (4 * i + 2) l)
  where
    start_is : start ≡ num 2 0 (entry 4 i l)
    start_is = es ∙ first_got 2 4 i l (omega arith) (inside 4 i n l lt long)

    len_is : len ≡ num 2 2 (entry 4 i l)
    len_is = el ∙ field_got 2 2 4 i l (omega arith) (inside 4 i n l lt long)

    pub name_fails : (NameStands total at start len → ⊥) → false ≡ v
    name_fails f =
        fails 4 (names_test total) (name_test total) name_next (name_more total) l n i at v inv lt
        (λ t. f (rw (start_is, len_is) (name_says total at (entry 4 i l) t)))

    pub name_goes : NameStands total at start len → names_test total (at + len) (left 4 n (i + 1) l) ≡ v
    name_goes s =
        ap (λ k. names_test total (at + k) (left 4 n (i + 1) l)) len_is
        ∙ goes 4 (names_test total) (name_test total) name_next (name_more total) l n i at v inv lt
        (says_name total at (entry 4 i l) (rw (start_is, len_is) at s))

-- ---- range slots

pub record RangeStands (total at lower upper first count : ℕ) : Type 0 where
  pub here : first ≡ at
  pub lower_ok : T (is_bound lower)
  pub upper_ok : T (is_bound upper)
  pub fits : at + count ≤ total

abbrev pub ranges_test : ℕ → ℕ → List (List ℕ) → Bool
ranges_test total at ps = slots_stand total at (map slot_of ps)

range_test : ℕ → ℕ → List ℕ → Bool
range_test total at p = eqb (num 2 4 p) at && (is_bound (num 2 0 p) && (is_bound (num 2 2 p) && leb (at + num 2 6 p) total))

abbrev range_next : ℕ → List ℕ → ℕ
range_next at p = at + num 2 6 p

range_more : (total at : ℕ) (p : List ℕ) (ps : List (List ℕ)) → ranges_test total at (p ∷ ps) ≡ (range_test total at p && ranges_test total (range_next at p) ps)
unfolding slots_stand range_test
range_more total at p ps =
    let a : Bool = eqb (num 2 4 p) at in
    let b : Bool = is_bound (num 2 0 p) in
    let c : Bool = is_bound (num 2 2 p) in
    let d : Bool = leb (at + num 2 6 p) total in
    let r : Bool = ranges_test total (at + num 2 6 p) ps in
    sym (and_assoc a (b && (c && d)) r ∙ ap (λ x. a && x) (and_assoc b (c && d) r ∙ ap (λ x. b && x) (and_assoc c d r)))

range_says : (total at : ℕ) (p : List ℕ) → T (range_test total at p) → RangeStands total at (num 2 0 p) (num 2 2 p) (num 2 4 p) (num 2 6 p)
unfolding range_test
range_says total at p t =
    let a = and_yes (eqb (num 2 4 p) at) _ t in
    let b = and_yes (is_bound (num 2 0 p)) _ a.1 in
    let c = and_yes (is_bound (num 2 2 p)) (leb (at + num 2 6 p) total) b.1 in
    record { here = eqb_yes a.0; lower_ok = b.0; upper_ok = c.0; fits = leb_yes c.1 }

says_range : (total at : ℕ) (p : List ℕ) → RangeStands total at (num 2 0 p) (num 2 2 p) (num 2 4 p) (num 2 6 p) → T (range_test total at p)
unfolding range_test
says_range total at p s =
    yes_and (eqb (num 2 4 p) at) _ (yes_eqb s.here)
    (yes_and (is_bound (num 2 0 p)) _ s.lower_ok
    (yes_and (is_bound (num 2 2 p)) (leb (at + num 2 6 p) total) s.upper_ok (yes_leb s.fits)))

pub ranges_begin : (total : ℕ) (l : List ℕ) (n : ℕ) → ranges_test total 0 (left 8 n 0 l) ≡ ranges_test total 0 (pieces 8 n l)
ranges_begin total l n = begins 8 (ranges_test total) (range_test total) range_next (range_more total) l n 0

pub ranges_end : (total : ℕ) (l : List ℕ) (n i at : ℕ) (v : Bool) → ranges_test total at (left 8 n i l) ≡ v → n ≤ i → eqb at total ≡ v
unfolding slots_stand
ranges_end total l n i at v inv h = ends 8 (ranges_test total) (range_test total) range_next (range_more total) l n i at v inv h

module _
    (total : ℕ)
    (l : List ℕ)
    (n i at lower upper first count : ℕ)
    (v : Bool)
    (inv : ranges_test total at (left 8 n i l) ≡ v)
    (lt : i < n)
    (long : 8 * n ≤ length l)
    (el : lower ≡ got 2 (8 * i) l)
    (eu : upper ≡ got 2 (8 * i + 2) l)
    (ef : first ≡ got 2 (8 * i + 4) l)
    (ec : count ≡ got 2 (8 * i + 6) l)
  where
    there : 8 * i + 8 ≤ length l
    there = inside 8 i n l lt long

    lower_is : lower ≡ num 2 0 (entry 8 i l)
    lower_is = el ∙ first_got 2 8 i l (omega arith) there

    upper_is : upper ≡ num 2 2 (entry 8 i l)
    upper_is = eu ∙ field_got 2 2 8 i l (omega arith) there

    first_is : first ≡ num 2 4 (entry 8 i l)
    first_is = ef ∙ field_got 2 4 8 i l (omega arith) there

    count_is : count ≡ num 2 6 (entry 8 i l)
    count_is = ec ∙ field_got 2 6 8 i l (omega arith) there

    pub range_fails : (RangeStands total at lower upper first count → ⊥) → false ≡ v
    range_fails f =
        fails 8 (ranges_test total) (range_test total) range_next (range_more total) l n i at v inv lt
        (λ t. f (rw (lower_is, upper_is, first_is, count_is) (range_says total at (entry 8 i l) t)))

    pub range_goes : RangeStands total at lower upper first count → ranges_test total (at + count) (left 8 n (i + 1) l) ≡ v
    range_goes s =
        ap (λ k. ranges_test total (at + k) (left 8 n (i + 1) l)) count_is
        ∙ goes 8 (ranges_test total) (range_test total) range_next (range_more total) l n i at v inv lt
        (says_range total at (entry 8 i l) (rw (lower_is, upper_is, first_is, count_is) at s))

-- ---- a test of each entry by itself

module _ (w : ℕ) (one : List ℕ → Bool) (l : List ℕ) (n : ℕ) where
  pub all_begin : all one (left w n 0 l) ≡ all one (pieces w n l)
  all_begin = begins w (λ (s : ℕ). all one) (λ s. one) (λ s p. s) (λ s p ps. refl) l n 0

  module _ (i : ℕ) (v : Bool) (inv : all one (left w n i l) ≡ v) where
    pub all_fails : i < n → (T (one (entry w i l)) → ⊥) → false ≡ v
    all_fails = fails w (λ (s : ℕ). all one) (λ s. one) (λ s p. s) (λ s p ps. refl) l n i 0 v inv

    pub all_goes : i < n → T (one (entry w i l)) → all one (left w n (i + 1) l) ≡ v
    all_goes = goes w (λ (s : ℕ). all one) (λ s. one) (λ s p. s) (λ s p ps. refl) l n i 0 v inv

    pub all_ends : n ≤ i → true ≡ v
    all_ends = ends w (λ (s : ℕ). all one) (λ s. one) (λ s p. s) (λ s p ps. refl) l n i 0 v inv

pub all_map : {A B : Type 0} (p : B → Bool) (f : A → B) (xs : List A) → all (λ x. p (f x)) xs ≡ all p (map f xs)
all_map p f [] = refl
all_map p f (x ∷ xs) = ap (λ b. p (f x) && b) (all_map p f xs)
