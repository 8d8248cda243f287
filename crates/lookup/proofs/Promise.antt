-- What the promises of the lookups leave open, nothing but the row among boundaries out of order, and what they say over tables as built: at every
-- scalar value the covering rule, and never 26. Idea: the paper's theorems on its own answers, carried over to the enums and to the part.
-- Assumes nothing.
use Prim.Native.Nat.{ℕ, ◌+◌, ◌≤◌, ◌<◌}
use native.Mathlib.Omega.{arith}
use mathlib.Core.Path.{◌≡◌, refl, sym, ap, ◌∙◌, subst}
use mathlib.Core.Logic.{◌↔◌}
use mathlib.Core.Bool.{not}
use mathlib.Core.List.{List, []}
use mathlib.Core.Option.{some}
use lib.Dec.{T}
use lib.ListN.{length, get_or, take, drop}
use lib.Seq.{get_or-take, get_or-drop}
use Rattle.paper.specs.Refusals.{not_scalar, tables_apart}
use Rattle.paper.specs.Text.Scalar.{is_scalar, IsScalar}
use Rattle.paper.specs.CharDef.Reading.{Reading}
use Rattle.paper.specs.Rows.Covering.{rising, categories_at}
use Rattle.paper.specs.Rows.Flat.{entry_offset, entry_length}
use Rattle.paper.specs.Rows.Lookup.{Looked, gives, refuses, LookupTables, Pool, of_flat, of_rows, Part, content, uses_flat, apart, lookup, Looks, packed_at}
use Rattle.paper.specs.Rows.Lookup.{GivesPart, AsBuilt, without_flat, with_flat}
use Rattle.paper.specs.declared.Refusal.{Refusal}
use Rattle.paper.proofs.Apart.{zero_one}
use Rattle.paper.proofs.Rows.Boundaries.{boundaries_are}
use Rattle.paper.proofs.Rows.Lookup.{no_scalar, looks_one, looks_some, flat_one, apart_exactly, packed_same}
use Rattle.paper.proofs.Rows.AsBuilt.{looked_up}
use Rattle.packed.specs.declared.Span.{Span}
use Rattle.packed.specs.declared.Packed.{Packed}
use Rattle.packed.specs.Entries.{packed, category_in, category}
use Rattle.packed.proofs.Tests.{category_in_lem}
use Rattle.packed.proofs.Promise.{entry_of}
use Rattle.lookup.specs.declared.Located.{Located}
use Rattle.lookup.specs.declared.Located.TheVariants.{InFlat}
use Rattle.lookup.specs.Categories.{in_pool, located, placed, Locates, held, PartIs}
use Rattle.lookup.proofs.Categories.{flat_inside}
use Rattle.std.specs.Prelude.{Err, Ok, Result, Some}

module _ (t : LookupTables) (c : ℕ) where
  -- ---- two outcomes coincide

  -- where they found the same row, in whatever order boundaries stand
  same_row : (a b : Looked Part) (l : Looks t c a) (m : Looks t c b) → l.row ≡ m.row → a ≡ b
  same_row a b l m e = l.answer ∙ ap (lookup t c) e ∙ sym m.answer

  pub located_same : (x y : Result Located Refusal) (l : Locates t c x) (m : Locates t c y) → l.looks.row ≡ m.looks.row → x ≡ y
  located_same x y l m e = l.answer ∙ ap located (same_row l.looked m.looked l.looks m.looks e) ∙ sym m.answer

  pub part_same : (x y : List ℕ) (l : PartIs t c x) (m : PartIs t c y) → l.looks.row ≡ m.looks.row → x ≡ y
  part_same x y l m e = l.holds ∙ ap (held t) (same_row l.looked m.looked l.looks m.looks e) ∙ sym m.holds

  -- what stands at the place is the part
  placed_is : (a : Looked Part) → placed t (located a) ≡ held t a
  unfolding content
  placed_is (gives p) = go p.from refl
    where
      go : (x : Pool) → p.from ≡ x → placed t (in_pool x (record { start = p.start; len = p.len })) ≡ content t p
      go of_flat e = rw e
      go of_rows e = rw e
  placed_is (refuses n) = refl

  -- wherever there is one answer
  module _ (one : (a b : Looked Part) → Looks t c a → Looks t c b → a ≡ b) where
    located_by : (x y : Result Located Refusal) → Locates t c x → Locates t c y → x ≡ y
    located_by x y l m = l.answer ∙ ap located (one l.looked m.looked l.looks m.looks) ∙ sym m.answer

    part_by : (x y : List ℕ) → PartIs t c x → PartIs t c y → x ≡ y
    part_by x y l m = l.holds ∙ ap (held t) (one l.looked m.looked l.looks m.looks) ∙ sym m.holds

    placed_by : (x : List ℕ) (y : Result Located Refusal) → PartIs t c x → Locates t c y → x ≡ placed t y
    placed_by x y l m =
        l.holds ∙ ap (held t) (one l.looked m.looked l.looks m.looks) ∙ sym (placed_is m.looked) ∙ ap (placed t) (sym m.answer)

  -- over boundaries that rise
  module _ (up : T (rising t.boundaries)) where
    pub located_one : (x y : Result Located Refusal) → Locates t c x → Locates t c y → x ≡ y
    located_one = located_by (λ a b. looks_one t c a b up)

    pub part_one : (x y : List ℕ) → PartIs t c x → PartIs t c y → x ≡ y
    part_one = part_by (λ a b. looks_one t c a b up)

    -- the two entries agree
    pub part_placed : (x : List ℕ) (y : Result Located Refusal) → PartIs t c x → Locates t c y → x ≡ placed t y
    part_placed = placed_by (λ a b. looks_one t c a b up)

  -- and by the flat table, over any boundaries
  module _ (flat : T (uses_flat t c)) where
    pub flat_located_one : (x y : Result Located Refusal) → Locates t c x → Locates t c y → x ≡ y
    flat_located_one = located_by (λ a b. flat_one t c a b flat)

    pub flat_part_one : (x y : List ℕ) → PartIs t c x → PartIs t c y → x ≡ y
    flat_part_one = part_by (λ a b. flat_one t c a b flat)

    pub flat_part_placed : (x : List ℕ) (y : Result Located Refusal) → PartIs t c x → Locates t c y → x ≡ placed t y
    flat_part_placed = placed_by (λ a b. flat_one t c a b flat)

  -- ---- 14 first, and then 26 exactly when the tables are apart

  module _ (n : T (not (is_scalar c))) where
    pub no_place : (x : Result Located Refusal) → Locates t c x → x ≡ Err (record { number = not_scalar; place = 0 })
    no_place x l = l.answer ∙ ap located (no_scalar t c l.looked n l.looks)

    pub no_part : (x : List ℕ) → PartIs t c x → x ≡ []
    no_part x l = l.holds ∙ ap (held t) (no_scalar t c l.looked n l.looks)

  refuses_only : (a : Looked Part) (n : ℕ) → located a ≡ Err (record { number = n; place = 0 }) → a ≡ refuses n
  refuses_only (gives p) n e = go p.from e
    where
      go : (x : Pool) → in_pool x (record { start = p.start; len = p.len }) ≡ Err (record { number = n; place = 0 }) → gives p ≡ refuses n
      go of_flat e = zero_one (cc)
      go of_rows e = zero_one (cc)
  refuses_only (refuses k) n e = let r : ◌≡◌ {A = Refusal} (record { number = k; place = 0 }) (record { number = n; place = 0 }) = cc in ap (λ x. refuses x.number) r

  pub apart_only : (x : Result Located Refusal) (l : Locates t c x)
      → (x ≡ Err (record { number = tables_apart; place = 0 })) ↔ (IsScalar c × T (apart t c l.looks.row))
  apart_only x l = (to, from)
    where
      to : x ≡ Err (record { number = tables_apart; place = 0 }) → IsScalar c × T (apart t c l.looks.row)
      to e = (apart_exactly t c l.looks.row).0 (sym l.looks.answer ∙ refuses_only l.looked tables_apart (sym l.answer ∙ e))

      from : IsScalar c × T (apart t c l.looks.row) → x ≡ Err (record { number = tables_apart; place = 0 })
      from h = l.answer ∙ ap located (l.looks.answer ∙ (apart_exactly t c l.looks.row).1 h)

  -- ---- the packed entry addresses the part that the lookup answers

  pub packed_place : (p : Packed) (x : Result Located Refusal) → packed (packed_at t.index c) ≡ Ok (Some p) → Locates t c x → ((e : Refusal) → x ≡ Err e → ⊥)
      → x ≡ Ok (InFlat (record { start = p.offset; len = p.len }))
  packed_place p x h l given = go (entry_of (packed_at t.index c) p h) l.looked refl
    where
      go : (e : ℕ) × ((packed_at t.index c ≡ gives (some e)) × (p ≡ record { offset = entry_offset e; len = entry_length e }))
          → (a : Looked Part) → l.looked ≡ a → x ≡ Ok (InFlat (record { start = p.offset; len = p.len }))
      go (e, (i, j)) (gives q) d =
          let k : q ≡ record { from = of_flat; start = entry_offset e; len = entry_length e } = packed_same t c e q i (subst (Looks t c) d l.looks) in
          l.answer ∙ ap located (d ∙ ap gives k) ∙ ap (λ y. Ok (InFlat (record { start = y.offset; len = y.len }))) (sym j)
      go z (refuses n) d = absurd (given (record { number = n; place = 0 }) (l.answer ∙ ap located d))

-- ---- over tables as built

module _ (r : Reading) (t : LookupTables) (b : AsBuilt r t) (c : ℕ) where
  built_rises : T (rising t.boundaries)
  built_rises = go b
    where
      go : AsBuilt r t → T (rising t.boundaries)
      go (without_flat l e) = subst (λ bs. T (rising bs)) (sym l.boundaries_are) (boundaries_are r).ascending
      go (with_flat l f) = subst (λ bs. T (rising bs)) (sym l.boundaries_are) (boundaries_are r).ascending

  pub built_located_one : (x y : Result Located Refusal) → Locates t c x → Locates t c y → x ≡ y
  built_located_one = located_one t c built_rises

  pub built_part_one : (x y : List ℕ) → PartIs t c x → PartIs t c y → x ≡ y
  built_part_one = part_one t c built_rises

  module _ (s : IsScalar c) where
    -- the part that is returned is the covering rule
    pub built_part : (x : List ℕ) → PartIs t c x → x ≡ categories_at r c
    built_part x l =
        let g : GivesPart t (categories_at r c) l.looked = looked_up r t c l.looked b s l.looks in
        l.holds ∙ ap (held t) g.given ∙ g.holds

    -- and so is what stands at the place that is named; it is never refused
    pub built_placed : (x : Result Located Refusal) → Locates t c x → placed t x ≡ categories_at r c
    built_placed x l =
        let g : GivesPart t (categories_at r c) l.looked = looked_up r t c l.looked b s l.looks in
        ap (placed t) l.answer ∙ placed_is t c l.looked ∙ ap (held t) g.given ∙ g.holds

    pub built_given : (x : Result Located Refusal) → Locates t c x → (e : Refusal) → x ≡ Err e → ⊥
    built_given x l e h =
        let g : GivesPart t (categories_at r c) l.looked = looked_up r t c l.looked b s l.looks in
        go (record { start = g.part.start; len = g.part.len }) g.part.from (sym h ∙ l.answer ∙ ap located g.given)
      where
        go : (p : Span) (y : Pool) → Err e ≡ in_pool y p → ⊥
        go p of_flat e = zero_one (cc)
        go p of_rows e = zero_one (cc)

    -- the packed entry addresses the same categories, together and one by one
    module _ (p : Packed) (h : packed (packed_at t.index c) ≡ Ok (Some p)) where
      some_place : (x : Result Located Refusal) × (Locates t c x × (x ≡ Ok (InFlat (record { start = p.offset; len = p.len }))))
      some_place =
          let (a, l) = looks_some t c in
          let m : Locates t c (located a) = record { looked = a; looks = l; answer = refl } in
          (located a, (m, packed_place t c p (located a) h m (built_given (located a) m)))

      pub packed_part : take p.len (drop p.offset t.flat) ≡ categories_at r c
      packed_part = let (x, (l, e)) = some_place in sym (ap (placed t) e) ∙ built_placed x l

      pub packed_category : (k : ℕ) → k < p.len → category (category_in t.flat (p.offset + k)) ≡ Ok (get_or (categories_at r c) k 0)
      packed_category k i =
          let (x, (l, e)) = some_place in
          let f : p.offset + p.len ≤ length t.flat = flat_inside t c x l _ e in
          let d : get_or t.flat (p.offset + k) 0 ≡ get_or (categories_at r c) k 0 =
          sym (get_or-take p.len (drop p.offset t.flat) k 0 i ∙ get_or-drop p.offset t.flat k 0) ∙ ap (λ m. get_or m k 0) packed_part in
          sym (category_in_lem t.flat (p.offset + k) (omega arith)) ∙ ap Ok d
