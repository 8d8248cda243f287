-- Lookups of categories over any tables: 14 first, then 26 exactly when the tables are apart; there is an answer, and over ascending
-- boundaries, or by the flat table, just one. Idea: where a row counts, just one is found.
-- Assumes nothing.
use Prim.Native.Nat.{ℕ, suc, ◌≤◌, zero-le, suc-le-suc}
use native.Mathlib.Nat.{le_of_suc-le-suc, not-suc-le-zero}
use native.Mathlib.Omega.{arith}
use mathlib.Core.Path.{◌≡◌, refl, sym, ap, ◌∙◌, subst}
use mathlib.Core.Logic.{◌↔◌}
use mathlib.Core.Bool.{Bool, true, false, not, cond, ◌&&◌}
use mathlib.Core.List.{List, [], ◌∷◌}
use mathlib.Core.Option.{none, some}
use lib.Dec.{T, leb, ltb, eqb}
use lib.ListN.{length, get_or}
use borrow.Author.Tests.{eqb-true, leb-true, leb-false}
use Rattle.paper.specs.Sizes.{bmp_size}
use Rattle.paper.specs.Refusals.{not_scalar, tables_apart}
use Rattle.paper.specs.Lists.{empty}
use Rattle.paper.specs.Text.Scalar.{is_scalar, IsScalar}
use Rattle.paper.specs.Rows.Covering.{rising}
use Rattle.paper.specs.Rows.Flat.{RowFound, entry_offset, entry_length}
use Rattle.paper.specs.Rows.Lookup.{Looked, gives, refuses, LookupTables, of_flat, Part, uses_flat, flat_part, row_part, index_odd, from_zero, apart, lookup, Looks, packed_at}
use Rattle.paper.proofs.Apart.{zero_one, refuses_gives}
use Rattle.paper.proofs.Lists.Facts.{T→true, T→false, true→T, or_true}
use Rattle.paper.proofs.Rows.Boundaries.{from_rising}
use Rattle.paper.proofs.Rows.Search.{found_one, found_later}

-- ---- 14, then 26

pub no_scalar : (t : LookupTables) (c : ℕ) (a : Looked Part) → T (not (is_scalar c)) → Looks t c a → a ≡ refuses not_scalar
unfolding lookup
no_scalar t c a s l = l.answer ∙ rw (T→false (is_scalar c) s)

pub answered : (t : LookupTables) (c i : ℕ) → IsScalar c → apart t c i ≡ false → lookup t c i ≡ gives (cond (uses_flat t c) (flat_part t c) (row_part t i))
unfolding lookup
answered t c i s e = rw (T→true (is_scalar c) s, e)

pub apart_exactly : (t : LookupTables) (c i : ℕ) → (lookup t c i ≡ refuses tables_apart) ↔ (IsScalar c × T (apart t c i))
unfolding lookup
apart_exactly t c i = (to (is_scalar c) (apart t c i), λ (s, h). rw (T→true (is_scalar c) s, T→true (apart t c i) h))
  where
    to : (s h : Bool) → cond s (cond h (refuses tables_apart) (gives (cond (uses_flat t c) (flat_part t c) (row_part t i)))) (refuses not_scalar) ≡ refuses tables_apart
        → T s × T h
    to true true e = (tt, tt)
    to true false e = refuses_gives (sym e)
    to false h e = absurd (never e)
      where
        never : ◌≡◌ {A = Looked Part} (refuses not_scalar) (refuses tables_apart) → ⊥
        never e = let q : not_scalar ≡ tables_apart = cc in omega arith

-- ---- one answer

unused_flat : (t : LookupTables) (c i j : ℕ) → uses_flat t c ≡ true → lookup t c i ≡ lookup t c j
unfolding lookup
unused_flat t c i j e = rw e

unused_rows : (t : LookupTables) (c i j : ℕ) → uses_flat t c ≡ false → from_zero t.boundaries ≡ false → lookup t c i ≡ lookup t c j
unfolding lookup
unused_rows t c i j e f = rw (e, f, or_true (index_odd t))

pub flat_one : (t : LookupTables) (c : ℕ) (a b : Looked Part) → T (uses_flat t c) → Looks t c a → Looks t c b → a ≡ b
flat_one t c a b u l m = l.answer ∙ unused_flat t c l.row m.row (T→true (uses_flat t c) u) ∙ sym m.answer

pub looks_one : (t : LookupTables) (c : ℕ) (a b : Looked Part) → T (rising t.boundaries) → Looks t c a → Looks t c b → a ≡ b
looks_one t c a b up l m = l.answer ∙ go (uses_flat t c) (from_zero t.boundaries) refl refl ∙ sym m.answer
  where
    go : (x y : Bool) → uses_flat t c ≡ x → from_zero t.boundaries ≡ y → lookup t c l.row ≡ lookup t c m.row
    go true y e f = unused_flat t c l.row m.row e
    go false false e f = unused_rows t c l.row m.row e f
    go false true e f =
        let z : T (from_zero t.boundaries) = true→T (from_zero t.boundaries) f in
        ap (lookup t c) (found_one 0 c l.row m.row t.boundaries (from_rising t.boundaries up) (l.found z) (m.found z))

-- among any boundaries from 0 some row is found
some_row : (b c : ℕ) (bs : List ℕ) → b ≤ c → (i : ℕ) × RowFound (b ∷ bs) c i
some_row b c [] h = (0, record { inside = suc-le-suc zero-le; up_to = h; next_above = λ k. absurd (not-suc-le-zero (le_of_suc-le-suc k)) })
some_row b c (x ∷ bs) h = go (leb x c) refl (some_row x c bs)
  where
    go : (z : Bool) → leb x c ≡ z → (x ≤ c → (i : ℕ) × RowFound (x ∷ bs) c i) → (i : ℕ) × RowFound (b ∷ x ∷ bs) c i
    go true e ih = let (i, f) = ih (leb-true x c e) in (suc i, found_later b f)
    go false e ih = (0, record { inside = suc-le-suc zero-le; up_to = h; next_above = λ k. leb-false x c e })

pub looks_some : (t : LookupTables) (c : ℕ) → (a : Looked Part) × Looks t c a
looks_some t c = let (i, f) = row t.boundaries in (lookup t c i, record { row = i; found = f; answer = refl })
  where
    row : (bs : List ℕ) → (i : ℕ) × (T (from_zero bs) → RowFound bs c i)
    row [] = (0, λ h. absurd h)
    row (b ∷ bs) = go (eqb b 0) refl
      where
        go : (z : Bool) → eqb b 0 ≡ z → (i : ℕ) × (T (eqb b 0) → RowFound (b ∷ bs) c i)
        go false e = (0, λ h. absurd (subst T e h))
        go true e = let k : b ≡ 0 = eqb-true b 0 e in let (i, f) = some_row b c bs (omega arith) in (i, λ h. f)

-- ---- the packed lookup

pub packed_no_scalar : (index : List ℕ) (c : ℕ) → T (not (is_scalar c)) → packed_at index c ≡ refuses not_scalar
unfolding packed_at
packed_no_scalar index c s = rw (T→false (is_scalar c) s)

pub packed_absent : (t : LookupTables) (c : ℕ) → IsScalar c → T (not (uses_flat t c)) → packed_at t.index c ≡ gives none
unfolding packed_at uses_flat
packed_absent t c s u = rw (T→true (is_scalar c) s, T→false (ltb c bmp_size && not (empty t.index)) u)

-- its entry addresses the part that the lookup answers
pub packed_same : (t : LookupTables) (c e : ℕ) (p : Part) → packed_at t.index c ≡ gives (some e) → Looks t c (gives p)
    → p ≡ record { from = of_flat; start = entry_offset e; len = entry_length e }
unfolding packed_at lookup uses_flat
packed_same t c e p h l = go (is_scalar c) (ltb c bmp_size && not (empty t.index)) (ltb c (length t.index)) (apart t c l.row) h l.answer
  where
    go : (s u k w : Bool)
        → cond s (cond u (cond k (gives (some (get_or t.index c 0))) (refuses tables_apart)) (gives none)) (refuses not_scalar) ≡ gives (some e)
        → gives p ≡ cond s (cond w (refuses tables_apart) (gives (cond u (flat_part t c) (row_part t l.row)))) (refuses not_scalar)
        → p ≡ record { from = of_flat; start = entry_offset e; len = entry_length e }
    go false u k w a b = refuses_gives (sym b)
    go true u k true a b = refuses_gives (sym b)
    go true false k false a b = zero_one (cc)
    go true true false false a b = refuses_gives a
    go true true true false a b =
        let q : get_or t.index c 0 ≡ e = cc in
        let i : p ≡ flat_part t c = cc in
        i ∙ ap (λ n. record { from = of_flat; start = entry_offset n; len = entry_length n }) q
