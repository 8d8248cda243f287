-- Over tables that hold together, what total reads give is the paper's reading: its boundaries, the covering rule, and what the walk asks.
-- Assumes nothing.
use Prim.Native.Nat.{ℕ, ◌+◌, ◌*◌, ◌<◌, ◌≤◌}
use native.Mathlib.Omega.{arith}
use mathlib.Core.Path.{◌≡◌, refl, sym, ap, ap₂, ◌∙◌, subst}
use mathlib.Core.Bool.{Bool, true, false, cond}
use mathlib.Core.List.{List, [], ◌∷◌, ◌++◌, map}
use lib.Dec.{T, leb, ltb, eqb}
use lib.ListN.{length, take, drop}
use lib.Seq.{drop-drop}
use mir.Facts.{and_yes, yes_and, leb_yes, ltb_yes, yes_ltb, eqb_yes}
use Rattle.paper.specs.Sizes.{max_categories}
use Rattle.paper.specs.Lists.{all, select, joined, first_seen}
use Rattle.paper.specs.CharDef.Reading.{Range}
use Rattle.paper.specs.Rows.Covering.{or_else, ascending, boundaries, range_holds, covers, named, defaults, categories_at, rows}
use Rattle.paper.specs.Computed.HandedIn.{slots_stand, slots_in, numbers_in, decoded, holds}
use Rattle.paper.specs.Pack.Rules.{is_bound}
use Rattle.paper.specs.Tables.Layout.{RangeSlot, pieces, ranging, Tables, range_slot_size, reference_size}
use Rattle.paper.specs.Tables.Lent.{num}
use Rattle.paper.specs.declared.Counts.{Counts}
use Rattle.paper.proofs.Lists.Facts.{all_append, all_imp}
use Rattle.paper.proofs.Pack.Trip.{bound_bits}
use Rattle.paper.proofs.Tables.Laws.{part_numbers, all_take, all_drop}
use Rattle.paper.proofs.Tables.Trip.{Parts, parts}
use Rattle.window.specs.Near.{no_boundary}
use Rattle.walk.specs.Next.{ends_of}
use Rattle.cover.specs.Slots.{slots_got, numbers_got, slot_holds, covers_got}
use Rattle.cover.proofs.Entries.{slots_got_lem, numbers_got_lem}
use Rattle.fill_rows.specs.Walked.{boundaries_of, row_of, rows_of, Readable}

-- ---- numbers

-- the first n numbers of a table, and a part of them
abbrev numbered : ℕ → List ℕ → List ℕ
numbered n l = map (num reference_size 0) (pieces reference_size n l)

-- ---- ranges

ends_same : (rs : List RangeSlot) (ns : List ℕ) → ends_of rs ≡ joined (map (λ (g : Range). g.lower ∷ (g.upper + 1) ∷ []) (ranging rs ns))
unfolding ranging
ends_same [] ns = refl
ends_same (r ∷ rs) ns = ap (λ m. r.lower ∷ (r.upper + 1) ∷ m) (ends_same rs (drop r.count ns))

-- slots that stand one behind another: the first stands at `at`, with allowed bounds and within the total, and so the rest
record Stands (total at : ℕ) (r : RangeSlot) (rs : List RangeSlot) : Type 0 where
  here : r.first ≡ at
  low : r.lower < no_boundary
  high : r.upper + 1 < no_boundary
  within : at + r.count ≤ total
  more : T (slots_stand total (at + r.count) rs)

stands : (total at : ℕ) (r : RangeSlot) (rs : List RangeSlot) → T (slots_stand total at (r ∷ rs)) → Stands total at r rs
unfolding slots_stand
stands total at r rs t =
    let a = and_yes (eqb r.first at) _ t in
    let b = and_yes (is_bound r.lower) _ a.1 in
    let c = and_yes (is_bound r.upper) _ b.1 in
    let d = and_yes (leb (at + r.count) total) _ c.1 in
    let x = bound_bits r.lower b.0 in
    let y = bound_bits r.upper c.0 in
    record { here = eqb_yes a.0; low = omega arith; high = omega arith; within = leb_yes d.0; more = d.1 }

ends_fit : (total at : ℕ) (rs : List RangeSlot) → T (slots_stand total at rs) → T (all (λ x. ltb x no_boundary) (ends_of rs))
ends_fit total at [] t = tt
ends_fit total at (r ∷ rs) t =
    let s = stands total at r rs t in
    yes_and (ltb r.lower no_boundary) _ (yes_ltb s.low)
    (yes_and (ltb (r.upper + 1) no_boundary) _ (yes_ltb s.high) (ends_fit total (at + r.count) rs s.more))

-- a slot's range with the categories ns, and the categories of the ranges that hold c
abbrev range_of : RangeSlot → List ℕ → Range
range_of r ns = record { lower = r.lower; upper = r.upper; categories = ns }

abbrev categories : List Range → List ℕ
categories gs = joined (map (λ g. g.categories) gs)

abbrev held : ℕ → List Range → List ℕ
held c gs = categories (select (range_holds c) gs)

covers_same : (c total at : ℕ) (rs : List RangeSlot) (l : List ℕ) → reference_size * total ≤ length l → T (slots_stand total at rs)
    → covers_got c rs l ≡ held c (ranging rs (drop at (numbered total l)))
unfolding covers_got ranging
covers_same c total at [] l h t = refl
covers_same c total at (r ∷ rs) l h t = go (slot_holds c r) (covers_same c total (at + r.count) rs l h s.more ∙ ap (λ m. held c (ranging rs m)) (sym on))
  where
    s : Stands total at r rs
    s = stands total at r rs t

    here : numbers_got r.first r.count l ≡ take r.count (drop at (numbered total l))
    here =
        let k : at + r.count ≤ total = s.within in
        ap (λ i. numbers_got i r.count l) s.here ∙ numbers_got_lem r.count at l (omega arith) ∙ sym (part_numbers total r.count at l k)

    on : drop r.count (drop at (numbered total l)) ≡ drop (at + r.count) (numbered total l)
    on = drop-drop r.count at (numbered total l)

    go : (z : Bool) → covers_got c rs l ≡ held c (ranging rs (drop r.count (drop at (numbered total l))))
        → cond z (numbers_got r.first r.count l) [] ++ covers_got c rs l
        ≡ categories
        (cond z
        (range_of r (take r.count (drop at (numbered total l))) ∷ select (range_holds c) (ranging rs (drop r.count (drop at (numbered total l)))))
        (select (range_holds c) (ranging rs (drop r.count (drop at (numbered total l))))))
    go true ih = ap₂ (λ x y. x ++ y) here ih
    go false ih = ih

held_all : (p : ℕ → Bool) (c : ℕ) (rs : List RangeSlot) (ns : List ℕ) → T (all p ns) → T (all p (held c (ranging rs ns)))
unfolding ranging
held_all p c [] ns t = tt
held_all p c (r ∷ rs) ns t = go (slot_holds c r) (held_all p c rs (drop r.count ns) (all_drop p r.count ns t))
  where
    go : (z : Bool) → T (all p (held c (ranging rs (drop r.count ns))))
        → T (all p (categories (cond z (range_of r (take r.count ns) ∷ select (range_holds c) (ranging rs (drop r.count ns)))
        (select (range_holds c) (ranging rs (drop r.count ns))))))
    go true ih = all_append p (take r.count ns) _ (all_take p r.count ns t) ih
    go false ih = ih

-- ---- tables that hold together

module _ (t : Tables) (n : Counts) (h : T (holds t n)) where
  q : Parts t n
  q = parts t n h

  slots_are : slots_got 0 n.ranges t.ranges ≡ slots_in t n
  unfolding slots_in
  slots_are =
      let k : range_slot_size * n.ranges ≤ length t.ranges = q.long.for_ranges in
      slots_got_lem n.ranges 0 t.ranges (omega arith)

  covers_are : (c : ℕ) → covers_got c (slots_got 0 n.ranges t.ranges) t.references ≡ covers (decoded t n) c
  unfolding decoded numbers_in
  covers_are c =
      ap (λ rs. covers_got c rs t.references) slots_are
      ∙ covers_same c n.references 0 (slots_in t n) t.references q.long.for_references q.rowed

  -- few categories, as the stamps ask
  pub few_names : n.categories ≤ max_categories
  few_names = q.long.limits.0

  pub readable : Readable t.ranges t.references n.ranges
  unfolding decoded numbers_in
  readable =
      record {
        few = q.long.limits.1.1.1.0;
        fits = subst (λ rs. T (all (λ x. ltb x no_boundary) (ends_of rs))) (sym slots_are) (ends_fit n.references 0 (slots_in t n) q.rowed);
        known = λ c. subst (λ l. T (all (λ x. ltb x max_categories) l)) (sym (covers_are c))
            (held_all (λ x. ltb x max_categories) c (slots_in t n) (numbers_in t n)
            (all_imp (λ x. ltb x n.categories) (λ x. ltb x max_categories) wider (numbers_in t n) q.known));
      }
    where
      wider : (x : ℕ) → T (ltb x n.categories) → T (ltb x max_categories)
      wider x u =
          let a : x < n.categories = ltb_yes u in
          let b : n.categories ≤ max_categories = q.long.limits.0 in
          yes_ltb {a = x} {b = max_categories} (omega arith)

  pub boundaries_met : boundaries_of (slots_got 0 n.ranges t.ranges) ≡ boundaries (decoded t n)
  unfolding decoded boundaries_of boundaries
  boundaries_met = ap (λ rs. ascending (0 ∷ ends_of rs)) slots_are ∙ ap (λ l. ascending (0 ∷ l)) (ends_same (slots_in t n) (numbers_in t n))

  pub row_met : (c : ℕ) → row_of (defaults (decoded t n)) (slots_got 0 n.ranges t.ranges) t.references c ≡ categories_at (decoded t n) c
  unfolding row_of categories_at named
  row_met c = ap (λ l. or_else (first_seen eqb l) (defaults (decoded t n))) (covers_are c)

  pub rows_met : rows_of (defaults (decoded t n)) (slots_got 0 n.ranges t.ranges) t.references ≡ rows (decoded t n)
  unfolding rows_of rows
  rows_met = each (boundaries_of (slots_got 0 n.ranges t.ranges)) ∙ ap (map (categories_at (decoded t n))) boundaries_met
    where
      each : (bs : List ℕ) → map (row_of (defaults (decoded t n)) (slots_got 0 n.ranges t.ranges) t.references) bs ≡ map (categories_at (decoded t n)) bs
      each [] = refl
      each (b ∷ bs) = ap₂ (λ x y. x ∷ y) (row_met b) (each bs)
