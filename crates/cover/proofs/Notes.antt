-- What a row notes by stamps, part after part: what is left gives the whole. A row notes at most as many numbers as there are stamps.
-- Assumes nothing.
use Prim.Native.Nat.{ℕ, zero, suc, ◌+◌, ◌*◌, ◌-◌, ◌≤◌, ◌<◌}
use native.Mathlib.Omega.{arith}
use mathlib.Core.Path.{◌≡◌, refl, sym, ap, ap₂, ◌∙◌, subst}
use mathlib.Core.Bool.{Bool, true, false, cond}
use mathlib.Core.List.{List, [], ◌∷◌, ◌++◌}
use lib.Dec.{ltb, eqb}
use lib.ListN.{length, get_or, set, length-set, length-append}
use lib.Seq.{sets}
use borrow.Author.Tests.{eq-eqb, ltb-true}
use Rattle.paper.specs.Tables.Lent.{got}
use Rattle.paper.specs.Rows.Covering.{or_else}
use Rattle.paper.proofs.Apart.{true_false}
use Rattle.cover.specs.Slots.{slot_got, slots_got, numbers_got, slot_holds, covers_got}
use Rattle.cover.specs.Stamps.{is_seen, stamped, stamps, Noted, Rowed}
use Rattle.cover.specs.Fallback.{fallback_row}
use Rattle.cover.proofs.Turn.{slots_none, slots_more, numbers_none, numbers_more}
use Rattle.std.specs.Prelude.{None, Option, Some}

-- ---- one step, and parts one after another

pub stamped_seen : (s x : ℕ) (seen xs : List ℕ) → is_seen s seen x ≡ true → stamped s seen (x ∷ xs) ≡ stamped s seen xs
unfolding stamped
stamped_seen s x seen xs e = rw e

pub stamped_new : (s x : ℕ) (seen xs : List ℕ) → is_seen s seen x ≡ false → stamped s seen (x ∷ xs) ≡ x ∷ stamped s (set seen x s) xs
unfolding stamped
stamped_new s x seen xs e = rw e

stamps_seen : (s x : ℕ) (seen xs : List ℕ) → is_seen s seen x ≡ true → stamps s seen (x ∷ xs) ≡ stamps s seen xs
unfolding stamps
stamps_seen s x seen xs e = rw e

stamps_new : (s x : ℕ) (seen xs : List ℕ) → is_seen s seen x ≡ false → stamps s seen (x ∷ xs) ≡ stamps s (set seen x s) xs
unfolding stamps
stamps_new s x seen xs e = rw e

pub stamped_none : (s : ℕ) (seen : List ℕ) → stamped s seen [] ≡ []
unfolding stamped
stamped_none s seen = refl

stamps_none : (s : ℕ) (seen : List ℕ) → stamps s seen [] ≡ seen
unfolding stamps
stamps_none s seen = refl

pub stamps_append : (s : ℕ) (seen p q : List ℕ) → stamps s seen (p ++ q) ≡ stamps s (stamps s seen p) q
unfolding stamps
stamps_append s seen [] q = refl
stamps_append s seen (x ∷ p) q = stamps_append s (cond (is_seen s seen x) seen (set seen x s)) p q

pub stamped_append : (s : ℕ) (seen p q : List ℕ) → stamped s seen (p ++ q) ≡ stamped s seen p ++ stamped s (stamps s seen p) q
stamped_append s seen [] q = ap₂ (λ a b. a ++ stamped s b q) (sym (stamped_none s seen)) (sym (stamps_none s seen))
stamped_append s seen (x ∷ p) q = go (is_seen s seen x) refl (stamped_append s seen p q) (stamped_append s (set seen x s) p q)
  where
    go : (b : Bool) → is_seen s seen x ≡ b → stamped s seen (p ++ q) ≡ stamped s seen p ++ stamped s (stamps s seen p) q
        → stamped s (set seen x s) (p ++ q) ≡ stamped s (set seen x s) p ++ stamped s (stamps s (set seen x s) p) q
        → stamped s seen (x ∷ (p ++ q)) ≡ stamped s seen (x ∷ p) ++ stamped s (stamps s seen (x ∷ p)) q
    go true e ih ij =
        stamped_seen s x seen (p ++ q) e ∙ ih ∙ ap₂ (λ a b. a ++ stamped s b q) (sym (stamped_seen s x seen p e)) (sym (stamps_seen s x seen p e))
    go false e ih ij =
        stamped_new s x seen (p ++ q) e ∙ ap (λ a. x ∷ a) ij ∙ ap₂ (λ a b. a ++ stamped s b q) (sym (stamped_new s x seen p e)) (sym (stamps_new s x seen p e))

pub sets_append : (l : List ℕ) (at : ℕ) (p q : List ℕ) → sets l at (p ++ q) ≡ sets (sets l at p) (at + length p) q
sets_append l at [] q = let e : at ≡ at + 0 = omega arith in ap (λ k. sets l k q) e
sets_append l at (x ∷ p) q =
    let e : suc at + length p ≡ at + suc (length p) = omega arith in
    sets_append (set l at x) (suc at) p q ∙ ap (λ k. sets (sets (set l at x) (suc at) p) k q) e

pub length_stamps : (s : ℕ) (seen l : List ℕ) → length (stamps s seen l) ≡ length seen
unfolding stamps
length_stamps s seen [] = refl
length_stamps s seen (x ∷ l) = length_stamps s (cond (is_seen s seen x) seen (set seen x s)) l ∙ go (is_seen s seen x)
  where
    go : (b : Bool) → length (cond b seen (set seen x s)) ≡ length seen
    go true = refl
    go false = length-set seen x s

-- ---- a row has at most as many numbers as there are stamps

abbrev marks : ℕ → List ℕ → ℕ
marks s [] = 0
marks s (v ∷ vs) = let m = marks s vs in cond (eqb v s) (suc m) m

marks_short : (s : ℕ) (seen : List ℕ) → marks s seen ≤ length seen
marks_short s [] = omega arith
marks_short s (v ∷ vs) = go (eqb v s) (marks_short s vs)
  where
    go : (b : Bool) → marks s vs ≤ length vs → cond b (suc (marks s vs)) (marks s vs) ≤ suc (length vs)
    go true h = omega arith
    go false h = omega arith

marks_set : (s x : ℕ) (seen : List ℕ) → x < length seen → eqb (get_or seen x 0) s ≡ false → marks s (set seen x s) ≡ suc (marks s seen)
marks_set s x [] h e = absurd (native.Mathlib.Nat.not-suc-le-zero h)
marks_set s zero (v ∷ vs) h e = rw (eq-eqb s s refl, e)
marks_set s (suc x) (v ∷ vs) h e = go (eqb v s) (marks_set s x vs (native.Mathlib.Nat.le_of_suc-le-suc h) e)
  where
    go : (b : Bool) → marks s (set vs x s) ≡ suc (marks s vs) → cond b (suc (marks s (set vs x s))) (marks s (set vs x s)) ≡ suc (cond b (suc (marks s vs)) (marks s vs))
    go true ih = ap suc ih
    go false ih = ih

unseen_in : (s x : ℕ) (seen : List ℕ) → is_seen s seen x ≡ false → (x < length seen) × (eqb (get_or seen x 0) s ≡ false)
unseen_in s x seen e = go (ltb x (length seen)) refl e
  where
    go : (b : Bool) → ltb x (length seen) ≡ b → cond b (eqb (get_or seen x 0) s) true ≡ false → (x < length seen) × (eqb (get_or seen x 0) s ≡ false)
    go true k e = (ltb-true x (length seen) k, e)
    go false k e = true_false e

stamped_marks : (s : ℕ) (seen l : List ℕ) → length (stamped s seen l) + marks s seen ≤ length seen
stamped_marks s seen [] = let e = ap length (stamped_none s seen) in let m = marks_short s seen in omega arith
stamped_marks s seen (x ∷ l) = go (is_seen s seen x) refl (stamped_marks s seen l) (stamped_marks s (set seen x s) l)
  where
    go : (b : Bool) → is_seen s seen x ≡ b → length (stamped s seen l) + marks s seen ≤ length seen
        → length (stamped s (set seen x s) l) + marks s (set seen x s) ≤ length (set seen x s) → length (stamped s seen (x ∷ l)) + marks s seen ≤ length seen
    go true e ih ij = let k = ap length (stamped_seen s x seen l e) in omega arith
    go false e ih ij =
        let k : length (stamped s seen (x ∷ l)) ≡ suc (length (stamped s (set seen x s) l)) = ap length (stamped_new s x seen l e) in
        let u = unseen_in s x seen e in
        let m : marks s (set seen x s) ≡ suc (marks s seen) = marks_set s x seen u.0 u.1 in
        let n : length (set seen x s) ≡ length seen = length-set seen x s in
        omega arith

pub stamped_short : (s : ℕ) (seen l : List ℕ) → length (stamped s seen l) ≤ length seen
stamped_short s seen l = let h = stamped_marks s seen l in omega arith

-- ---- what is left

pub record Left (s : ℕ) (all seen₀ out₀ : List ℕ) (at : ℕ) (rest seen out : List ℕ) (to : ℕ) : Type 0 where
  pub short : to ≤ at + length seen₀
  pub stamps_left : stamps s seen rest ≡ stamps s seen₀ all
  pub out_left : sets out to (stamped s seen rest) ≡ sets out₀ at (stamped s seen₀ all)
  pub count_left : to + length (stamped s seen rest) ≡ at + length (stamped s seen₀ all)

module _ (s : ℕ) (all seen₀ out₀ : List ℕ) (at : ℕ) where
  pub left_same : (rest rest' seen out : List ℕ) (to : ℕ) → rest ≡ rest' → Left s all seen₀ out₀ at rest seen out to → Left s all seen₀ out₀ at rest' seen out to
  left_same rest rest' seen out to e h = subst (λ r. Left s all seen₀ out₀ at r seen out to) e h

  pub left_part : (p rest seen seen' out out' : List ℕ) (to to' : ℕ) → Left s all seen₀ out₀ at (p ++ rest) seen out to → Noted s p seen seen' out out' to to'
      → Left s all seen₀ out₀ at rest seen' out' to'
  left_part p rest seen seen' out out' to to' h n =
      let es : seen' ≡ stamps s seen p = n.seen in
      let eo : out' ≡ sets out to (stamped s seen p) = n.out in
      let ec : to' ≡ to + length (stamped s seen p) = n.count in
      let ea = stamped_append s seen p rest in
      let q : to + length (stamped s seen (p ++ rest)) ≡ at + length (stamped s seen₀ all) = h.count_left in
      let la : length (stamped s seen (p ++ rest)) ≡ length (stamped s seen p) + length (stamped s (stamps s seen p) rest) =
      ap length ea ∙ length-append (stamped s seen p) (stamped s (stamps s seen p) rest) in
      let lb : length (stamped s seen' rest) ≡ length (stamped s (stamps s seen p) rest) = ap (λ z. length (stamped s z rest)) es in
      let short : length (stamped s seen₀ all) ≤ length seen₀ = stamped_short s seen₀ all in
      record {
        short = omega arith;
        stamps_left = ap (λ z. stamps s z rest) es ∙ sym (stamps_append s seen p rest) ∙ h.stamps_left;
        out_left =
            ap₂ (λ a b. sets a b (stamped s seen' rest)) eo ec
            ∙ ap (λ z. sets (sets out to (stamped s seen p)) (to + length (stamped s seen p)) (stamped s z rest)) es
            ∙ sym (sets_append out to (stamped s seen p) (stamped s (stamps s seen p) rest))
            ∙ ap (sets out to) (sym ea) ∙ h.out_left;
        count_left = omega arith;
      }

  pub left_done : (rest seen out : List ℕ) (to : ℕ) → rest ≡ [] → Left s all seen₀ out₀ at rest seen out to → Noted s all seen₀ seen out₀ out at to
  left_done rest seen out to e h =
      let k = left_same rest [] seen out to e h in
      let n : stamped s seen [] ≡ [] = stamped_none s seen in
      let z : to + length (stamped s seen []) ≡ at + length (stamped s seen₀ all) = k.count_left in
      let l : length (stamped s seen []) ≡ 0 = ap length n in
      record {
        seen = sym (stamps_none s seen) ∙ k.stamps_left;
        out = ap (sets out to) (sym n) ∙ k.out_left;
        count = omega arith;
      }

-- one number is a part
one_seen : (s x : ℕ) (seen out : List ℕ) (to : ℕ) → is_seen s seen x ≡ true → Noted s (x ∷ []) seen seen out out to to
one_seen s x seen out to e =
    let a : stamped s seen (x ∷ []) ≡ [] = stamped_seen s x seen [] e ∙ stamped_none s seen in
    let b : length (stamped s seen (x ∷ [])) ≡ 0 = ap length a in
    record { seen = sym (stamps_seen s x seen [] e ∙ stamps_none s seen); out = sym (ap (sets out to) a); count = omega arith }

one_new : (s x : ℕ) (seen out : List ℕ) (to : ℕ) → is_seen s seen x ≡ false → Noted s (x ∷ []) seen (set seen x s) out (set out to x) to (to + 1)
one_new s x seen out to e =
    let a : stamped s seen (x ∷ []) ≡ x ∷ [] = stamped_new s x seen [] e ∙ ap (λ l. x ∷ l) (stamped_none s (set seen x s)) in
    let b : length (stamped s seen (x ∷ [])) ≡ 1 = ap length a in
    record { seen = sym (stamps_new s x seen [] e ∙ stamps_none s (set seen x s)); out = sym (ap (sets out to) a); count = omega arith }

-- ---- the turns of `note`

module _ (s : ℕ) (l seen₀ out₀ all : List ℕ) (at end : ℕ) where
  module _ (seen out : List ℕ) (i to x : ℕ) (h : Left s all seen₀ out₀ at (numbers_got i (end - i) l) seen out to) (lt : i < end) (ex : x ≡ got 2 (2 * i) l) where
    opened : Left s all seen₀ out₀ at ((x ∷ []) ++ numbers_got (i + 1) (end - (i + 1)) l) seen out to
    opened = left_same s all seen₀ out₀ at _ _ seen out to (numbers_more i end l lt ∙ ap (λ y. y ∷ numbers_got (i + 1) (end - (i + 1)) l) (sym ex)) h

    pub noting_seen : (b : Bool) → b ≡ is_seen s seen x → b ≡ true → Left s all seen₀ out₀ at (numbers_got (i + 1) (end - (i + 1)) l) seen out to
    noting_seen b e t = left_part s all seen₀ out₀ at (x ∷ []) _ seen seen out out to to opened (one_seen s x seen out to (sym e ∙ t))

    pub noting_new : (b : Bool) (seen' out' : List ℕ) → b ≡ is_seen s seen x → b ≡ false → seen' ≡ set seen x s → out' ≡ set out to x
        → Left s all seen₀ out₀ at (numbers_got (i + 1) (end - (i + 1)) l) seen' out' (to + 1)
    noting_new b seen' out' e t p q =
        rw (p, q) (left_part s all seen₀ out₀ at (x ∷ []) _ seen (set seen x s) out (set out to x) to (to + 1) opened (one_new s x seen out to (sym e ∙ t)))

  pub noting_done : (seen out : List ℕ) (i to : ℕ) → Left s all seen₀ out₀ at (numbers_got i (end - i) l) seen out to → end ≤ i
      → Noted s all seen₀ seen out₀ out at to
  noting_done seen out i to h g = left_done s all seen₀ out₀ at _ seen out to (numbers_none i end l g) h

-- ---- the turns of `named`

nothing : (c : ℕ) (l : List ℕ) → covers_got c [] l ≡ []
unfolding covers_got
nothing c l = refl

module _ (s c n : ℕ) (rs l seen₀ out₀ all : List ℕ) (at : ℕ) where
  module _ (seen out : List ℕ) (i to : ℕ) (h : Left s all seen₀ out₀ at (covers_got c (slots_got i (n - i) rs) l) seen out to) (lt : i < n)
      (b : Bool) (eb : b ≡ slot_holds c (slot_got i rs)) where
    next_covers : covers_got c (slot_got i rs ∷ slots_got (i + 1) (n - (i + 1)) rs) l
        ≡ cond (slot_holds c (slot_got i rs)) (numbers_got (slot_got i rs).first (slot_got i rs).count l) [] ++ covers_got c (slots_got (i + 1) (n - (i + 1)) rs) l
    unfolding covers_got
    next_covers = refl

    pub naming_out : b ≡ false → Left s all seen₀ out₀ at (covers_got c (slots_got (i + 1) (n - (i + 1)) rs) l) seen out to
    naming_out t =
        let e : covers_got c (slots_got i (n - i) rs) l ≡ covers_got c (slots_got (i + 1) (n - (i + 1)) rs) l =
        ap (λ k. covers_got c k l) (slots_more i n rs lt) ∙ next_covers
        ∙ ap (λ z. cond z (numbers_got (slot_got i rs).first (slot_got i rs).count l) [] ++ covers_got c (slots_got (i + 1) (n - (i + 1)) rs) l) (sym eb ∙ t) in
        left_same s all seen₀ out₀ at _ _ seen out to e h

    pub naming_in : (seen' out' : List ℕ) (to' first count : ℕ) → b ≡ true → first ≡ got 2 (8 * i + 4) rs → count ≡ got 2 (8 * i + 6) rs
        → Noted s (numbers_got first count l) seen seen' out out' to to' → Left s all seen₀ out₀ at (covers_got c (slots_got (i + 1) (n - (i + 1)) rs) l) seen' out' to'
    unfolding slot_got
    naming_in seen' out' to' first count t ef ec m =
        let e : covers_got c (slots_got i (n - i) rs) l ≡ numbers_got first count l ++ covers_got c (slots_got (i + 1) (n - (i + 1)) rs) l =
        ap (λ k. covers_got c k l) (slots_more i n rs lt) ∙ next_covers
        ∙ ap (λ z. cond z (numbers_got (slot_got i rs).first (slot_got i rs).count l) [] ++ covers_got c (slots_got (i + 1) (n - (i + 1)) rs) l) (sym eb ∙ t)
        ∙ ap₂ (λ x y. numbers_got x y l ++ covers_got c (slots_got (i + 1) (n - (i + 1)) rs) l) (sym ef) (sym ec) in
        let k = left_same s all seen₀ out₀ at _ _ seen out to e h in
        left_part s all seen₀ out₀ at _ _ seen seen' out out' to to' k m

  pub naming_done : (seen out : List ℕ) (i to : ℕ) → Left s all seen₀ out₀ at (covers_got c (slots_got i (n - i) rs) l) seen out to → n ≤ i
      → Noted s all seen₀ seen out₀ out at to
  naming_done seen out i to h g = left_done s all seen₀ out₀ at _ seen out to (ap (λ k. covers_got c k l) (slots_none i n rs g) ∙ nothing c l) h

-- ---- how a row ends
module _ (s : ℕ) (l seen₀ seen out₀ out : List ℕ) (at to : ℕ) (h : Noted s l seen₀ seen out₀ out at to) where
  pub rowed_some : (ds : List ℕ) → at < to → Rowed s l ds seen₀ seen out₀ out at to
  rowed_some ds g =
      let e : or_else (stamped s seen₀ l) ds ≡ stamped s seen₀ l = some (stamped s seen₀ l) h.count in
      record { seen = h.seen; out = h.out ∙ ap (sets out₀ at) (sym e); count = h.count ∙ ap (λ z. at + length z) (sym e) }
    where
      some : (k : List ℕ) → to ≡ at + length k → or_else k ds ≡ k
      some [] e = absurd (none e)
        where
          none : to ≡ at + 0 → ⊥
          none e = omega arith
      some (x ∷ k) e = refl

  nothing_named : to ≤ at → stamped s seen₀ l ≡ []
  nothing_named g = none (stamped s seen₀ l) h.count
    where
      none : (k : List ℕ) → to ≡ at + length k → k ≡ []
      none [] e = refl
      none (x ∷ k) e = absurd (more e)
        where
          more : to ≡ at + suc (length k) → ⊥
          more e = omega arith

  as_it_was : to ≤ at → out ≡ out₀
  as_it_was g = h.out ∙ ap (sets out₀ at) (nothing_named g)

  pub rowed_fallback : (d : Option ℕ) (number : ℕ) (out' : List ℕ) → to ≤ at → d ≡ Some number → out' ≡ set out at number
      → Rowed s l (fallback_row d) seen₀ seen out₀ out' at (at + 1)
  rowed_fallback d number out' g k p =
      let e : or_else (stamped s seen₀ l) (fallback_row d) ≡ number ∷ [] = ap₂ (λ x y. or_else x (fallback_row y)) (nothing_named g) k in
      record {
        seen = h.seen;
        out = p ∙ ap (λ z. set z at number) (as_it_was g) ∙ ap (sets out₀ at) (sym e);
        count = ap (λ z. at + length z) (sym e);
      }

  pub rowed_none : (d : Option ℕ) → to ≤ at → d ≡ None → Rowed s l (fallback_row d) seen₀ seen out₀ out at at
  rowed_none d g k =
      let e : or_else (stamped s seen₀ l) (fallback_row d) ≡ [] = ap₂ (λ x y. or_else x (fallback_row y)) (nothing_named g) k in
      let z : at ≡ at + 0 = omega arith in
      record { seen = h.seen; out = as_it_was g ∙ ap (sets out₀ at) (sym e); count = z ∙ ap (λ z. at + length z) (sym e) }
