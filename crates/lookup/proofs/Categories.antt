-- A lookup of categories over any tables goes one of four ways, to 14, to 26, by the flat table or by rows, and each gives the paper's answer.
-- Idea: where no row counts, any row that is found serves.
-- Assumes nothing.
use Prim.Native.Nat.{ℕ, ◌+◌, ◌-◌, ◌≤◌, ◌<◌}
use native.Mathlib.Nat.{add-sub_cancel_left}
use native.Mathlib.Omega.{arith}
use mathlib.Core.Path.{◌≡◌, refl, sym, ap, ◌∙◌, subst}
use mathlib.Core.Bool.{Bool, true, false, not, cond, ◌||◌}
use mathlib.Core.List.{List}
use lib.Dec.{T, ltb}
use lib.ListN.{length, get_or, take, drop}
use borrow.Author.Tests.{lt-ltb, le-ltb, ltb-false, eq-eqb, ne_eqb, not-true, not-false}
use Rattle.paper.specs.Sizes.{bmp_size}
use Rattle.paper.specs.Refusals.{not_scalar, tables_apart}
use Rattle.paper.specs.Lists.{empty}
use Rattle.paper.specs.Text.Scalar.{is_scalar}
use Rattle.paper.specs.Rows.Lookup.{Looked, gives, refuses, LookupTables, Pool, of_flat, of_rows, Part, content, uses_flat, flat_part, row_part}
use Rattle.paper.specs.Rows.Lookup.{index_odd, from_zero, row_missing, past_pool, apart, lookup}
use Rattle.paper.specs.declared.Refusal.{Refusal}
use Rattle.paper.proofs.Apart.{zero_one, refuses_gives}
use Rattle.paper.proofs.Lists.Facts.{or_true, and_false}
use Rattle.paper.proofs.Rows.Lookup.{looks_some}
use Rattle.find_row.specs.Sought.{RowSought}
use Rattle.find_row.proofs.Search.{sought_found}
use Rattle.packed.specs.declared.Span.{Span}
use Rattle.packed.proofs.Tests.{no_entries, some_entries}
use Rattle.lookup.specs.declared.Located.{Located}
use Rattle.lookup.specs.declared.Located.TheVariants.{InFlat, InRows}
use Rattle.lookup.specs.Categories.{in_pool, located, Locates, held, PartIs}
use Rattle.lookup.specs.Ways.{by_flat, of_row, by_row, ByRows}
use Rattle.std.specs.Prelude.{Err, Ok, Result}

-- ---- by rows

-- b is the answer of the code's test, that the boundaries begin at 0
module _ (bs starts lengths : List ℕ) (places c : ℕ) (b : Bool) (e : b ≡ from_zero bs) where
  pub rows_none : not b ≡ true → ByRows bs starts lengths places c (Err (record { number = tables_apart; place = 0 }))
  unfolding by_row
  rows_none n = let z : from_zero bs ≡ false = sym e ∙ not-true b n in record { row = 0; found = λ t. absurd (subst T z t); answer = rw z }

  pub rows_some : not b ≡ false → (i : ℕ) → RowSought bs c i → (r : Result Located Refusal) → r ≡ located (of_row starts lengths places i) → ByRows bs starts lengths places c r
  unfolding by_row
  rows_some n i s r d =
      let z : from_zero bs ≡ true = sym e ∙ not-false b n in
      record { row = i; found = λ t. sought_found bs c i t s; answer = d ∙ rw z }

-- ---- the ways of a lookup

module _ (t : LookupTables) (c : ℕ) where
  -- where no row counts, any that is found serves
  no_row : (a : Looked Part) (r : Result Located Refusal) → ((i : ℕ) → lookup t c i ≡ a) → r ≡ located a → Locates t c r
  no_row a r h e =
      let (b, l) = looks_some t c in
      record { looked = a; looks = record { row = l.row; found = l.found; answer = sym (h l.row) }; answer = e }

  pub way_none : is_scalar c ≡ false → Locates t c (Err (record { number = not_scalar; place = 0 }))
  unfolding lookup
  way_none s = no_row (refuses not_scalar) _ (λ i. rw s) refl

  module _ (s : is_scalar c ≡ true) where
    pub way_odd : (length t.index ≡ 0 → ⊥) → (length t.index ≡ bmp_size → ⊥) → Locates t c (Err (record { number = tables_apart; place = 0 }))
    unfolding lookup apart index_odd
    way_odd h k = no_row (refuses tables_apart) _ (λ i. rw (s, some_entries t.index h, ne_eqb (length t.index) bmp_size k)) refl

    row_looked : (i : ℕ) → index_odd t ≡ false → uses_flat t c ≡ false → by_row t.boundaries t.starts t.lengths (length t.pool) i ≡ lookup t c i
    unfolding lookup apart by_row row_missing past_pool
    row_looked i o u = rw (s, o, u) (go (from_zero t.boundaries) _ _)
      where
        go : (z m p : Bool)
            → cond z (cond m (refuses tables_apart) (cond p (refuses tables_apart) (gives (row_part t i)))) (refuses tables_apart)
            ≡ cond (not z || m || p) (refuses tables_apart) (gives (row_part t i))
        go false m p = refl
        go true true p = refl
        go true false p = refl

    by_rows : index_odd t ≡ false → uses_flat t c ≡ false → (r : Result Located Refusal) → ByRows t.boundaries t.starts t.lengths (length t.pool) c r → Locates t c r
    by_rows o u r b =
        record {
          looked = lookup t c b.row;
          looks = record { row = b.row; found = b.found; answer = refl };
          answer = b.answer ∙ ap located (row_looked b.row o u);
        }

    pub way_empty : length t.index ≡ 0 → (r : Result Located Refusal) → ByRows t.boundaries t.starts t.lengths (length t.pool) c r → Locates t c r
    unfolding index_odd uses_flat
    way_empty h r b =
        let e : empty t.index ≡ true = no_entries t.index h in
        by_rows (rw e) (rw e (and_false (ltb c bmp_size))) r b

    module _ (full : length t.index ≡ bmp_size) where
      even : index_odd t ≡ false
      unfolding index_odd
      even = rw (eq-eqb (length t.index) bmp_size full, or_true (empty t.index))

      pub way_beyond : bmp_size ≤ c → (r : Result Located Refusal) → ByRows t.boundaries t.starts t.lengths (length t.pool) c r → Locates t c r
      unfolding uses_flat
      way_beyond h r b = by_rows even (rw (le-ltb c bmp_size h)) r b

      pub way_flat : c < bmp_size → (r : Result Located Refusal) → r ≡ located (by_flat (get_or t.index c 0) (length t.flat)) → Locates t c r
      unfolding lookup apart uses_flat by_flat past_pool
      way_flat h r e =
          let n : empty t.index ≡ false = some_entries t.index (λ z. omega arith) in
          no_row (by_flat (get_or t.index c 0) (length t.flat)) r (λ i. rw (s, even, lt-ltb c bmp_size h, n)) e

-- ---- the part that was located lies in its pool, and is what is answered

module _ (t : LookupTables) (c : ℕ) where
  -- a part that a lookup gives does not run past its pool
  inside : (i : ℕ) (p : Part) → gives p ≡ lookup t c i → past_pool t p ≡ false
  unfolding lookup apart
  inside i p e =
      go (is_scalar c) (index_odd t) (uses_flat t c) (past_pool t (flat_part t c)) (not (from_zero t.boundaries)) (row_missing t i) (past_pool t (row_part t i)) refl refl e
    where
      go : (s o u f z m r : Bool) → past_pool t (flat_part t c) ≡ f → past_pool t (row_part t i) ≡ r
          → gives p ≡ cond s (cond (o || cond u f (z || m || r)) (refuses tables_apart) (gives (cond u (flat_part t c) (row_part t i)))) (refuses not_scalar)
          → past_pool t p ≡ false
      go false o u f z m r a b e = refuses_gives (sym e)
      go true true u f z m r a b e = refuses_gives (sym e)
      go true false true true z m r a b e = refuses_gives (sym e)
      go true false true false z m r a b e = let q : p ≡ flat_part t c = cc in ap (past_pool t) q ∙ a
      go true false false f true m r a b e = refuses_gives (sym e)
      go true false false f false true r a b e = refuses_gives (sym e)
      go true false false f false false true a b e = refuses_gives (sym e)
      go true false false f false false false a b e = let q : p ≡ row_part t i = cc in ap (past_pool t) q ∙ b

  -- which part it is
  flat_is : (a : Looked Part) (s : Span) → Ok (InFlat s) ≡ located a → a ≡ gives (record { from = of_flat; start = s.start; len = s.len })
  flat_is (gives p) s e = go p.from refl e
    where
      go : (x : Pool) → p.from ≡ x → Ok (InFlat s) ≡ in_pool x (record { start = p.start; len = p.len })
          → gives p ≡ gives (record { from = of_flat; start = s.start; len = s.len })
      go of_flat d e = let q : s ≡ record { start = p.start; len = p.len } = cc in rw (d, q)
      go of_rows d e = zero_one (cc)
  flat_is (refuses n) s e = zero_one (cc)

  rows_is : (a : Looked Part) (s : Span) → Ok (InRows s) ≡ located a → a ≡ gives (record { from = of_rows; start = s.start; len = s.len })
  rows_is (gives p) s e = go p.from refl e
    where
      go : (x : Pool) → p.from ≡ x → Ok (InRows s) ≡ in_pool x (record { start = p.start; len = p.len })
          → gives p ≡ gives (record { from = of_rows; start = s.start; len = s.len })
      go of_flat d e = zero_one (cc)
      go of_rows d e = let q : s ≡ record { start = p.start; len = p.len } = cc in rw (d, q)
  rows_is (refuses n) s e = zero_one (cc)

  module _ (r : Result Located Refusal) (l : Locates t c r) where
    module _ (s : Span) (e : r ≡ Ok (InFlat s)) where
      flat_looked : l.looked ≡ gives (record { from = of_flat; start = s.start; len = s.len })
      flat_looked = flat_is l.looked s (sym e ∙ l.answer)

      pub flat_inside : s.start + s.len ≤ length t.flat
      unfolding past_pool
      flat_inside = ltb-false _ _ (inside l.looks.row _ (sym flat_looked ∙ l.looks.answer))

      pub flat_part_lem : PartIs t c (take (s.start + s.len - s.start) (drop s.start t.flat))
      unfolding content
      flat_part_lem =
          record {
            looked = l.looked;
            looks = l.looks;
            holds = ap (λ n. take n (drop s.start t.flat)) (add-sub_cancel_left s.start s.len) ∙ sym (ap (held t) flat_looked);
          }

    module _ (s : Span) (e : r ≡ Ok (InRows s)) where
      rows_looked : l.looked ≡ gives (record { from = of_rows; start = s.start; len = s.len })
      rows_looked = rows_is l.looked s (sym e ∙ l.answer)

      pub rows_inside : s.start + s.len ≤ length t.pool
      unfolding past_pool
      rows_inside = ltb-false _ _ (inside l.looks.row _ (sym rows_looked ∙ l.looks.answer))

      pub rows_part : PartIs t c (take (s.start + s.len - s.start) (drop s.start t.pool))
      unfolding content
      rows_part =
          record {
            looked = l.looked;
            looks = l.looks;
            holds = ap (λ n. take n (drop s.start t.pool)) (add-sub_cancel_left s.start s.len) ∙ sym (ap (held t) rows_looked);
          }
