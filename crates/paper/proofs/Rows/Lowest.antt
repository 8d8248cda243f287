-- `lowest` is the lowest number with a name, and absent where no number has it; where no name stands twice, each has its own.
-- Assumes nothing.
use Prim.Native.Nat.{ℕ, zero, suc, ◌<◌, zero-le, suc-le-suc}
use native.Mathlib.Nat.{le_of_suc-le-suc, not-suc-le-zero}
use mathlib.Core.Path.{◌≡◌, refl, sym, ap, subst}
use mathlib.Core.Bool.{Bool, true, false, not, cond, ◌||◌}
use mathlib.Core.List.{List, [], ◌∷◌}
use mathlib.Core.Option.{none, some}
use lib.Dec.{T}
use lib.ListN.{length, get_or}
use mir.Facts.{and_yes, T_not}
use Rattle.paper.specs.Lists.{any, position_of, same}
use Rattle.paper.specs.Rows.Numbers.{lowest_named, LowestNamed}
use Rattle.paper.specs.Pack.Rules.{once_after}
use Rattle.paper.proofs.Apart.{none_some}
use Rattle.paper.proofs.Lists.Facts.{T→true, T→false, true→T, false→T}
use Rattle.paper.proofs.Lists.Seen.{same_eq, same_refl}

-- where x is there, it stands at its position and nowhere before
position_first : (x : List ℕ) (ns : List (List ℕ)) → T (any (same x) ns) → LowestNamed x ns (position_of same x ns)
position_first x [] t = absurd t
position_first x (n ∷ ns) t = go (same x n) refl t (position_first x ns)
  where
    go : (b : Bool) → same x n ≡ b → T (b || any (same x) ns) → (T (any (same x) ns) → LowestNamed x ns (position_of same x ns))
        → LowestNamed x (n ∷ ns) (cond b zero (suc (position_of same x ns)))
    go true e t ih = record { inside = suc-le-suc zero-le; there = sym (same_eq x n (true→T _ e)); not_before = λ j h. absurd (not-suc-le-zero h) }
    go false e t ih = let f = ih t in record { inside = suc-le-suc f.inside; there = f.there; not_before = before f }
      where
        before : LowestNamed x ns (position_of same x ns) → (j : ℕ) → j < suc (position_of same x ns) → get_or (n ∷ ns) j [] ≡ x → ⊥
        before f zero h q = T_not (same x n) (subst (λ m. T (same m n)) q (same_refl n)) (false→T _ e)
        before f (suc j) h q = f.not_before j (le_of_suc-le-suc h) q

not_any : (x : List ℕ) (ns : List (List ℕ)) → any (same x) ns ≡ false → (j : ℕ) → j < length ns → get_or ns j [] ≡ x → ⊥
not_any x [] e j h q = not-suc-le-zero h
not_any x (n ∷ ns) e j h q = go (same x n) refl e j h q (not_any x ns)
  where
    go : (b : Bool) → same x n ≡ b → (b || any (same x) ns) ≡ false → (j : ℕ) → j < suc (length ns) → get_or (n ∷ ns) j [] ≡ x
        → (any (same x) ns ≡ false → (j : ℕ) → j < length ns → get_or ns j [] ≡ x → ⊥) → ⊥
    go true d e j h q ih = subst T e tt
    go false d e zero h q ih = T_not (same x n) (subst (λ m. T (same m n)) q (same_refl n)) (false→T _ d)
    go false d e (suc j) h q ih = ih e j (le_of_suc-le-suc h) q

pub lowest_first : (x : List ℕ) (ns : List (List ℕ)) (k : ℕ) → lowest_named x ns ≡ some k → LowestNamed x ns k
unfolding lowest_named
lowest_first x ns k e = go (any (same x) ns) refl e
  where
    go : (b : Bool) → any (same x) ns ≡ b → cond b (some (position_of same x ns)) none ≡ some k → LowestNamed x ns k
    go true d e = let q : position_of same x ns ≡ k = cc in subst (LowestNamed x ns) q (position_first x ns (true→T _ d))
    go false d e = none_some e

pub lowest_absent : (x : List ℕ) (ns : List (List ℕ)) → lowest_named x ns ≡ none → (j : ℕ) → j < length ns → get_or ns j [] ≡ x → ⊥
unfolding lowest_named
lowest_absent x ns e = go (any (same x) ns) refl e
  where
    go : (b : Bool) → any (same x) ns ≡ b → cond b (some (position_of same x ns)) none ≡ none → (j : ℕ) → j < length ns → get_or ns j [] ≡ x → ⊥
    go true d e = none_some (sym e)
    go false d e = not_any x ns d

-- where no name stands twice, a name's number is its place
once_apart : (before ns : List (List ℕ)) (k : ℕ) → T (once_after before ns) → k < length ns → any (same (get_or ns k [])) before ≡ false
once_apart before [] k t h = absurd (not-suc-le-zero h)
once_apart before (n ∷ ns) zero t h = T→false _ (and_yes (not (any (same n) before)) _ t).0
once_apart before (n ∷ ns) (suc k) t h =
    (or_false (same (get_or ns k []) n) _ (once_apart (n ∷ before) ns k (and_yes (not (any (same n) before)) _ t).1 (le_of_suc-le-suc h))).1
  where
    or_false : (a b : Bool) → (a || b) ≡ false → (a ≡ false) × (b ≡ false)
    or_false true b e = absurd (subst T e tt)
    or_false false b e = (refl, e)

pub once_lowest : (before ns : List (List ℕ)) (k : ℕ) → T (once_after before ns) → k < length ns → lowest_named (get_or ns k []) ns ≡ some k
unfolding lowest_named
once_lowest before [] k t h = absurd (not-suc-le-zero h)
once_lowest before (n ∷ ns) zero t h = rw (T→true (same n n) (same_refl n))
once_lowest before (n ∷ ns) (suc k) t h = rw (apart_here (once_apart (n ∷ before) ns k u j)) (more (any (same (get_or ns k [])) ns) (once_lowest (n ∷ before) ns k u j))
  where
    u : T (once_after (n ∷ before) ns)
    u = (and_yes (not (any (same n) before)) _ t).1

    j : k < length ns
    j = le_of_suc-le-suc h

    apart_here : (same (get_or ns k []) n || any (same (get_or ns k [])) before) ≡ false → same (get_or ns k []) n ≡ false
    apart_here e = go (same (get_or ns k []) n) e
      where
        go : (b : Bool) → (b || any (same (get_or ns k [])) before) ≡ false → b ≡ false
        go true e = absurd (subst T e tt)
        go false e = refl

    more : (b : Bool) → cond b (some (position_of same (get_or ns k []) ns)) none ≡ some k → cond b (some (suc (position_of same (get_or ns k []) ns))) none ≡ some (suc k)
    more true e = let q : position_of same (get_or ns k []) ns ≡ k = cc in ap (λ m. some (suc m)) q
    more false e = none_some e
