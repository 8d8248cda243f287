-- The place of refusal 3: `LongestPrefix p s` holds of just one p, the one that the decoder answers (`longest_prefix`, `longest_one`). Idea:
-- what the decoder has taken is well-formed, and where it stops no alternative of the ABNF goes on.
-- Assumes nothing.
use Prim.Native.Nat.{ℕ, zero, suc, ◌+◌, ◌<◌, ◌≤◌, zero-le, suc-le-suc}
use native.Mathlib.Nat.{le_refl, le_of_suc-le-suc, not-suc-le-zero}
use native.Mathlib.Omega.{arith}
use native.Mathlib.Decide.{dec_le}
use mathlib.Core.Path.{◌≡◌, refl, sym, ap, ◌∙◌, subst}
use mathlib.Core.Logic.{◌↔◌}
use mathlib.Core.List.{List, [], ◌∷◌, ◌++◌}
use lib.ListN.{length, take, drop, take-append-drop, length-take}
use lib.Seq.{drop-nil, take-take, take_all, take-length}
use Rattle.paper.specs.Text.Scalar.{WellFormed, nothing, LongestPrefix}
use Rattle.paper.specs.Computed.Decode.{First, bad, good, first, Text, broken, chars, cons_text, onward, decode_from, decode, prefix_of}
use Rattle.paper.proofs.Apart.{broken_chars}
pub use Rattle.paper.proofs.Text.Shapes.{Starts, started, Shaped, first_shapes}

-- ---- the place of a refusal

pub unbroken : (c : ℕ) (o : Text) (p : ℕ) → cons_text c o ≡ broken p → o ≡ broken p
unbroken c (broken q) p h = h
unbroken c (chars cs) p h = broken_chars (sym h)

-- what stands before the place is well-formed
pub prefix_fits : (s : List ℕ) (at skip p : ℕ) → decode_from at skip s ≡ broken p
    → (n : ℕ) × (p ≡ at + n) × (skip ≤ n) × (n ≤ length s) × WellFormed (drop skip (take n s))
unfolding decode_from
prefix_fits [] at skip p h = broken_chars (sym h)
prefix_fits (a ∷ s) at (suc skip) p h =
    let (n, e, k, l, w) = prefix_fits s (suc at) skip p h in
    (suc n, omega arith, suc-le-suc k, suc-le-suc l, w)
prefix_fits (a ∷ s) at zero p h = go (first a s) refl h (λ extra. prefix_fits s (suc at) extra p)
  where
    go : (f : First) → first a s ≡ f → onward at f (λ extra. decode_from (suc at) extra s) ≡ broken p
        → ((extra : ℕ) → decode_from (suc at) extra s ≡ broken p → (n : ℕ) × (p ≡ suc at + n) × (extra ≤ n) × (n ≤ length s) × WellFormed (drop extra (take n s)))
        → (n : ℕ) × (p ≡ at + n) × (0 ≤ n) × (n ≤ suc (length s)) × WellFormed (take n (a ∷ s))
    go bad e h ih =
        let ep : at ≡ p = cc in
        (0, omega arith, zero-le, zero-le, nothing)
    go (good c extra) e h ih =
        let (n, ep, k, l, w) = ih extra (unbroken c (decode_from (suc at) extra s) p h) in
        let sh = first_shapes a s c extra e in
        let whole : take extra s ++ drop extra (take n s) ≡ take n s = ap (λ x. x ++ drop extra (take n s)) (sym (take-take extra n s k)) ∙ take-append-drop extra (take n s) in
        (suc n, omega arith, zero-le, suc-le-suc l, subst (λ x. WellFormed (a ∷ x)) whole (sh.glue (drop extra (take n s)) w))

pub at_most : (s : List ℕ) (at skip p : ℕ) → decode_from at skip s ≡ broken p → at ≤ p
at_most s at skip p h = let (n, e, k, l, w) = prefix_fits s at skip p h in omega arith

-- and no longer prefix is
pub prefix_longest : (s : List ℕ) (at skip p : ℕ) → decode_from at skip s ≡ broken p
    → (n : ℕ) → skip ≤ n → n ≤ length s → WellFormed (drop skip (take n s)) → at + n ≤ p
unfolding decode_from
prefix_longest [] at skip p h n k l w = broken_chars (sym h)
prefix_longest (a ∷ s) at (suc skip) p h zero k l w = absurd (not-suc-le-zero k)
prefix_longest (a ∷ s) at (suc skip) p h (suc n) k l w =
    let r = prefix_longest s (suc at) skip p h n (le_of_suc-le-suc k) (le_of_suc-le-suc l) w in
    omega arith
prefix_longest (a ∷ s) at zero p h zero k l w = let m = at_most (a ∷ s) at zero p h in omega arith
prefix_longest (a ∷ s) at zero p h (suc n) k l w =
    let st : Starts a (take n s) = started w in
    let same : first a s ≡ good st.value st.extra = ap (first a) (sym (take-append-drop n s)) ∙ st.read (drop n s) in
    let below : decode_from (suc at) st.extra s ≡ broken p =
    unbroken st.value _ p (ap (λ f. onward at f (λ extra. decode_from (suc at) extra s)) (sym same) ∙ h) in
    let size : st.extra ≤ n = (let t : st.extra ≤ length (take n s) = st.there in omega (arith, length-take n s)) in
    let r = prefix_longest s (suc at) st.extra p below n size (le_of_suc-le-suc l) st.rest in
    omega arith

-- ---- what the decoder takes is well-formed

whole_chars : (c : ℕ) (o : Text) (cs : List ℕ) → cons_text c o ≡ chars cs → (ds : List ℕ) × (o ≡ chars ds)
whole_chars c (broken q) cs h = broken_chars h
whole_chars c (chars ds) cs h = (ds, refl)

pub chars_formed : (s : List ℕ) (at skip : ℕ) (cs : List ℕ) → decode_from at skip s ≡ chars cs → WellFormed (drop skip s)
unfolding decode_from
chars_formed [] at skip cs h = subst WellFormed (sym (drop-nil skip)) nothing
chars_formed (a ∷ s) at (suc skip) cs h = chars_formed s (suc at) skip cs h
chars_formed (a ∷ s) at zero cs h = go (first a s) refl h (λ extra ds. chars_formed s (suc at) extra ds)
  where
    go : (f : First) → first a s ≡ f → onward at f (λ extra. decode_from (suc at) extra s) ≡ chars cs
        → ((extra : ℕ) (ds : List ℕ) → decode_from (suc at) extra s ≡ chars ds → WellFormed (drop extra s)) → WellFormed (a ∷ s)
    go bad e h ih = broken_chars h
    go (good c extra) e h ih =
        let (ds, d) = whole_chars c (decode_from (suc at) extra s) cs h in
        let sh = first_shapes a s c extra e in
        subst (λ x. WellFormed (a ∷ x)) (take-append-drop extra s) (sh.glue (drop extra s) (ih extra ds d))

-- the place lies inside
pub broken_inside : (s : List ℕ) (at skip p : ℕ) → decode_from at skip s ≡ broken p → p < at + length s
unfolding decode_from
broken_inside [] at skip p h = broken_chars (sym h)
broken_inside (a ∷ s) at (suc skip) p h = let k = broken_inside s (suc at) skip p h in omega arith
broken_inside (a ∷ s) at zero p h = go (first a s) h (λ extra. broken_inside s (suc at) extra p)
  where
    go : (f : First) → onward at f (λ extra. decode_from (suc at) extra s) ≡ broken p
        → ((extra : ℕ) → decode_from (suc at) extra s ≡ broken p → p < suc at + length s) → p < at + suc (length s)
    go bad h ih = let e : at ≡ p = cc in omega arith
    go (good c extra) h ih = let k = ih extra (unbroken c (decode_from (suc at) extra s) p h) in omega arith

-- ---- the longest well-formed prefix

module _ (s : List ℕ) (r : ℕ) (inside : r ≤ length s) (formed : WellFormed (take r s))
    (longest : (k : ℕ) → r < k → k ≤ length s → WellFormed (take k s) → ⊥) where
  pub prefix_is : r ≡ prefix_of (decode s) (length s)
  unfolding decode
  prefix_is = go (decode_from 0 0 s) refl
    where
      le : (p : ℕ) → p ≤ length s → WellFormed (take p s) → p ≤ r
      le p h w = elim (dec_le p r) [
        | yes k ↦ k
        | no k ↦ absurd (longest p (omega arith) h w)
      ]

      go : (o : Text) → decode_from 0 0 s ≡ o → r ≡ prefix_of o (length s)
      go (broken p) e =
          let (n, ep, k, l, w) = prefix_fits s 0 0 p e in
          let a : n ≤ r = le n l w in
          let b : 0 + r ≤ p = prefix_longest s 0 0 p e r (omega arith) inside formed in
          omega arith
      go (chars cs) e =
          let a : length s ≤ r = le (length s) (omega arith) (subst WellFormed (sym (take_all (length s) s (omega arith))) (chars_formed s 0 0 cs e)) in
          omega arith

decoded_prefix : (s : List ℕ) (o : Text) → decode s ≡ o → LongestPrefix (prefix_of o (length s)) s
unfolding decode
decoded_prefix s (chars cs) e = record { inside = le_refl (length s); fits = subst WellFormed (sym (take-length s)) (chars_formed s 0 0 cs e); longest = λ n h w. h }
decoded_prefix s (broken p) e =
    let (n, ep, k, l, w) = prefix_fits s 0 0 p e in
    let q : n ≡ p = omega arith in
    let b : p < 0 + length s = broken_inside s 0 0 p e in
    record { inside = omega arith; fits = subst (λ m. WellFormed (take m s)) q w; longest = λ m h v. trim m (prefix_longest s 0 0 p e m zero-le h v) }
  where
    trim : (m : ℕ) → 0 + m ≤ p → m ≤ p
    trim m h = omega arith

pub longest_prefix : (s : List ℕ) (p : ℕ) → LongestPrefix p s ↔ (p ≡ prefix_of (decode s) (length s))
longest_prefix s p =
    (λ l. prefix_is s p l.inside l.fits (λ k h i w. never k h (l.longest k i w)), λ e. subst (λ q. LongestPrefix q s) (sym e) (decoded_prefix s (decode s) refl))
  where
    never : (k : ℕ) → p < k → k ≤ p → ⊥
    never k h i = omega arith

pub prefix_of_lem : (s : List ℕ) (p : ℕ) → decode s ≡ broken p → LongestPrefix p s
prefix_of_lem s p e = decoded_prefix s (broken p) e

pub longest_one : (s : List ℕ) (p q : ℕ) → LongestPrefix p s → LongestPrefix q s → p ≡ q
longest_one s p q a b = (longest_prefix s p).0 a ∙ sym ((longest_prefix s q).0 b)
