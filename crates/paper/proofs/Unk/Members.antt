-- The entries of a category: found by its number are exactly the numbers of the entries whose first field is its name, ascending, and
-- for names without repeats no entry is listed twice.
-- Assumes nothing.
use Prim.Native.Nat.{ℕ, zero, suc, ◌+◌, ◌≤◌}
use native.Mathlib.Nat.{le_refl}
use native.Mathlib.Omega.{arith}
use mathlib.Core.Path.{◌≡◌, refl, sym, ap, ◌∙◌, subst}
use mathlib.Core.Logic.{◌⊎◌, inl, inr, ◌↔◌}
use mathlib.Core.Bool.{Bool, true, false, not, cond, ◌||◌}
use mathlib.Core.Option.{Option, none, some, map}
use mathlib.Core.List.{List, [], ◌∷◌}
use lib.Dec.{T, leb, ltb}
use lib.ListN.{length, get_elem?}
use mir.Facts.{and_yes, yes_and, T_not, yes_leb}
use Rattle.paper.specs.Lists.{all, any, same}
use Rattle.paper.specs.Pack.Rules.{once_after, once}
use Rattle.paper.specs.Unk.Entry.{Entry, entries_from, Unk, unk_of, UnkFits, entries_of, rises, Listed, CategoryEntries}
use Rattle.paper.proofs.Apart.{none_some}
use Rattle.paper.proofs.Lists.Facts.{T→true, true→T}
use Rattle.paper.proofs.Lists.Seen.{same_eq, same_refl}
use Rattle.paper.proofs.Unk.Numbered.{some_same, found_map, unknown_from, listed_here, listed_later, listed_cases, rising_one}

-- ---- the entries with a name

entries_low : (low k : ℕ) (name : List ℕ) (es : List Entry) → low ≤ k → T (all (leb low) (entries_from k name es))
entries_low low k name [] h = tt
entries_low low k name (e ∷ es) h = go (same name e.category) (entries_low low (suc k) name es (omega arith))
  where
    R : List ℕ
    R = entries_from (suc k) name es

    go : (b : Bool) → T (all (leb low) R) → T (all (leb low) (cond b (k ∷ R) R))
    go true t = yes_and (leb low k) (all (leb low) R) (yes_leb h) t
    go false t = t

entries_rise : (k : ℕ) (name : List ℕ) (es : List Entry) → T (rises (entries_from k name es))
entries_rise k name [] = tt
entries_rise k name (e ∷ es) = go (same name e.category) (entries_rise (suc k) name es)
  where
    R : List ℕ
    R = entries_from (suc k) name es

    go : (b : Bool) → T (rises R) → T (rises (cond b (k ∷ R) R))
    go true t = yes_and (all (ltb k) R) (rises R) (entries_low (suc k) (suc k) name es (le_refl (suc k))) t
    go false t = t

-- the entry that a number listed from k on stands for
listed_entry : (k : ℕ) (name : List ℕ) (es : List Entry) (j : ℕ) → Listed j (entries_from k name es)
    → (i : ℕ) × (e : Entry) × (j ≡ k + i) × (get_elem? es i ≡ some e) × (e.category ≡ name)
listed_entry k name [] j t = absurd t
listed_entry k name (e ∷ es) j t = go (same name e.category) refl t (listed_entry (suc k) name es j)
  where
    Found : ℕ → List Entry → Type 0
    Found k es = (i : ℕ) × (e : Entry) × (j ≡ k + i) × (get_elem? es i ≡ some e) × (e.category ≡ name)

    R : List ℕ
    R = entries_from (suc k) name es

    later : Found (suc k) es → Found k (e ∷ es)
    later (i, d, ej, at, n) = let z : suc k + i ≡ k + suc i = omega arith in (suc i, d, ej ∙ z, at, n)

    go : (b : Bool) → same name e.category ≡ b → Listed j (cond b (k ∷ R) R) → (Listed j R → Found (suc k) es) → Found k (e ∷ es)
    go false eb t ih = later (ih t)
    go true eb t ih = first (listed_cases j k R t)
      where
        first : (j ≡ k) ⊎ Listed j R → Found k (e ∷ es)
        first (inl ej) = let z : k ≡ k + 0 = omega arith in (0, e, ej ∙ z, refl, sym (same_eq name e.category (true→T _ eb)))
        first (inr l) = later (ih l)

entry_listed : (k : ℕ) (name : List ℕ) (es : List Entry) (i : ℕ) (e : Entry) → get_elem? es i ≡ some e → e.category ≡ name → Listed (k + i) (entries_from k name es)
entry_listed k name [] i e at n = none_some at
entry_listed k name (d ∷ es) zero e at n =
    let ed : d ≡ e = some_same at in
    let z : k + 0 ≡ k = omega arith in
    let b : T (same name d.category) = subst (λ c. T (same name c)) (sym (ap (λ x. x.category) ed ∙ n)) (same_refl name) in
    rw (z, T→true (same name d.category) b) (listed_here k (entries_from (suc k) name es))
entry_listed k name (d ∷ es) (suc i) e at n = go (same name d.category) (rw z at (entry_listed (suc k) name es i e at n))
  where
    R : List ℕ
    R = entries_from (suc k) name es

    z : suc k + i ≡ k + suc i
    z = omega arith

    go : (b : Bool) → Listed (k + suc i) R → Listed (k + suc i) (cond b (k ∷ R) R)
    go true t = listed_later (k + suc i) k R t
    go false t = t

pub name_entries : (name : List ℕ) (es : List Entry) → CategoryEntries name es (entries_from 0 name es)
name_entries name es = record { ascending = entries_rise 0 name es; exactly = λ k. (to k, from k) }
  where
    to : (k : ℕ) → Listed k (entries_from 0 name es) → (e : Entry) × (get_elem? es k ≡ some e) × (e.category ≡ name)
    to k t =
        let (i, e, ek, at, n) = listed_entry 0 name es k t in
        let z : 0 + i ≡ i = omega arith in
        (e, ap (get_elem? es) (ek ∙ z) ∙ at, n)

    from : (k : ℕ) → (e : Entry) × (get_elem? es k ≡ some e) × (e.category ≡ name) → Listed k (entries_from 0 name es)
    from k (e, at, n) =
        let z : 0 + k ≡ k = omega arith in
        subst (λ j. Listed j (entries_from 0 name es)) z (entry_listed 0 name es k e at n)

-- one list is a name's
pub category_entries_one : (name : List ℕ) (es : List Entry) (ks ls : List ℕ) → CategoryEntries name es ks → CategoryEntries name es ls → ks ≡ ls
category_entries_one name es ks ls a b =
    rising_one ks ls a.ascending b.ascending (λ k. (λ t. (b.exactly k).1 ((a.exactly k).0 t), λ t. (a.exactly k).1 ((b.exactly k).0 t)))

-- ---- a category

members_found : (names : List (List ℕ)) (bytes : List ℕ) (u : Unk) (f : UnkFits names bytes u) (c : ℕ)
    → entries_of u c ≡ map (λ n. entries_from 0 n f.entries) (get_elem? names c)
unfolding unk_of
members_found names bytes u f c = ap (λ v. entries_of v c) f.says ∙ found_map (λ n. entries_from 0 n f.entries) names c

-- a category's entries are what is found by its number, and nothing else is
pub category_entries : (names : List (List ℕ)) (bytes : List ℕ) (u : Unk) (f : UnkFits names bytes u) (c : ℕ) (ks : List ℕ)
    → (entries_of u c ≡ some ks) ↔ ((name : List ℕ) × (get_elem? names c ≡ some name) × CategoryEntries name f.entries ks)
category_entries names bytes u f c ks = (λ h. to (get_elem? names c) refl (sym found ∙ h), from)
  where
    es : List Entry
    es = f.entries

    found : entries_of u c ≡ map (λ n. entries_from 0 n es) (get_elem? names c)
    found = members_found names bytes u f c

    to : (o : Option (List ℕ)) → get_elem? names c ≡ o → map (λ n. entries_from 0 n es) o ≡ some ks
        → (name : List ℕ) × (get_elem? names c ≡ some name) × CategoryEntries name es ks
    to none e h = none_some h
    to (some name) e h = (name, e, subst (CategoryEntries name es) (some_same h) (name_entries name es))

    from : (name : List ℕ) × (get_elem? names c ≡ some name) × CategoryEntries name es ks → entries_of u c ≡ some ks
    from (name, e, h) =
        found ∙ ap (map (λ n. entries_from 0 n es)) e ∙ ap some (category_entries_one name es (entries_from 0 name es) ks (name_entries name es) h)

-- 15: a category's number is unknown exactly from the number of names on
pub category_unknown : (names : List (List ℕ)) (bytes : List ℕ) (u : Unk) (f : UnkFits names bytes u) (c : ℕ) → (entries_of u c ≡ none) ↔ (length names ≤ c)
category_unknown names bytes u f c = unknown_from (λ n. entries_from 0 n f.entries) names c (entries_of u c) (members_found names bytes u f c)

-- ---- names without repeats

not_before : (before ns : List (List ℕ)) (c : ℕ) (n : List ℕ) → T (once_after before ns) → get_elem? ns c ≡ some n → T (any (same n) before) → ⊥
not_before before [] c n o at t = none_some at
not_before before (m ∷ ns) zero n o at t =
    let e : m ≡ n = some_same at in
    T_not (any (same m) before) (subst (λ x. T (any (same x) before)) (sym e) t) (and_yes (not (any (same m) before)) (once_after (m ∷ before) ns) o).0
not_before before (m ∷ ns) (suc c) n o at t =
    not_before (m ∷ before) ns c n (and_yes (not (any (same m) before)) (once_after (m ∷ before) ns) o).1 at (later (same n m))
  where
    later : (b : Bool) → T (b || any (same n) before)
    later true = tt
    later false = t

twice : (before : List (List ℕ)) (m : List ℕ) (ns : List (List ℕ)) (c : ℕ) (n : List ℕ) → T (once_after before (m ∷ ns)) → some m ≡ some n → get_elem? ns c ≡ some n → ⊥
twice before m ns c n o e at =
    not_before (m ∷ before) ns c n (and_yes (not (any (same m) before)) (once_after (m ∷ before) ns) o).1 at (subst (λ x. T (any (same n) (x ∷ before))) (sym (some_same e)) own)
  where
    go : (b : Bool) → T b → T (b || any (same n) before)
    go true t = tt
    go false t = absurd t

    own : T (any (same n) (n ∷ before))
    own = go (same n n) (same_refl n)

place_once : (before ns : List (List ℕ)) (b c : ℕ) (n : List ℕ) → T (once_after before ns) → get_elem? ns b ≡ some n → get_elem? ns c ≡ some n → b ≡ c
place_once before [] b c n o at_b at_c = none_some at_b
place_once before (m ∷ ns) zero zero n o at_b at_c = refl
place_once before (m ∷ ns) zero (suc c) n o at_b at_c = absurd (twice before m ns c n o at_b at_c)
place_once before (m ∷ ns) (suc b) zero n o at_b at_c = absurd (twice before m ns b n o at_c at_b)
place_once before (m ∷ ns) (suc b) (suc c) n o at_b at_c =
    ap suc (place_once (m ∷ before) ns b c n (and_yes (not (any (same m) before)) (once_after (m ∷ before) ns) o).1 at_b at_c)

-- for names without repeats nothing is listed twice: not in one list, which rises, and not in two
pub listed_once : (names : List (List ℕ)) (bytes : List ℕ) (u : Unk) (f : UnkFits names bytes u) → T (once names)
    → (b c k : ℕ) (ks ls : List ℕ) → entries_of u b ≡ some ks → entries_of u c ≡ some ls → Listed k ks → Listed k ls → b ≡ c
listed_once names bytes u f o b c k ks ls eb ec tb tc =
    let (m, at_b, hb) = (category_entries names bytes u f b ks).0 eb in
    let (n, at_c, hc) = (category_entries names bytes u f c ls).0 ec in
    let (d, there_d, name_d) = (hb.exactly k).0 tb in
    let (e, there_e, name_e) = (hc.exactly k).0 tc in
    let de : d ≡ e = some_same (sym there_d ∙ there_e) in
    let mn : m ≡ n = sym name_d ∙ ap (λ x. x.category) de ∙ name_e in
    place_once [] names b c n o (at_b ∙ ap some mn) at_c
