-- Ranges: bounds and count, then category numbers; each range into the two tables behind those before it.
-- Assumes nothing.
use Prim.Native.Nat.{ℕ, suc, ◌+◌, ◌*◌, ◌-◌, ◌≤◌, ◌<◌}
use native.Mathlib.Omega.{arith}
use mathlib.Core.Path.{◌≡◌, refl, sym, ap, ap₂, ◌∙◌}
use mathlib.Core.List.{List, [], ◌∷◌, ◌++◌, map, append-nil}
use lib.Dec.{ltb}
use lib.ListN.{length, length-append}
use borrow.Author.Tests.{leb-true, ltb-true}
use Rattle.paper.specs.Sizes.{max_ranges, max_references}
use Rattle.paper.specs.Refusals.{pack_rule}
use Rattle.paper.specs.Lists.{joined}
use Rattle.paper.specs.Numbers.Bytes.{le}
use Rattle.paper.specs.CharDef.Reading.{Range, references}
use Rattle.paper.specs.Pack.Fields.{bound_width, count_width, number_width, range_width}
use Rattle.paper.specs.Pack.Rules.{is_bound}
use Rattle.paper.specs.Computed.ReadPack.{FieldStep, gave, broke, Reader, after_step, ◌▹◌, give, number, count_rule, many, read_range, read_ranges}
use Rattle.paper.specs.Tables.Layout.{RangeSlot, slot_bytes, range_slots, range_table, range_slot_size, reference_size}
use Rattle.paper.specs.Tables.Lent.{patch, padded}
use Rattle.paper.proofs.Lists.Facts.{true→T}
use Rattle.paper.proofs.Pack.Trip.{bound_bits}
use Rattle.paper.proofs.Tables.Laws.{patch_length}
use Rattle.paper.proofs.Tables.Append.{ranges_more, references_more, references_snoc, padded_length}
use Rattle.field.specs.Cursor.{rest}
use Rattle.pack_ranges.specs.declared.Bounds.{Bounds}
use Rattle.pack_field.specs.Parts.{Fills}
use Rattle.pack_ranges.specs.Ranges.{with_bounds, BoundsIn, Two, RangeIn, Ranged, RangesIn}
use Rattle.pack_field.proofs.Steps.{go_on, stop, behind}
use Rattle.pack_field.proofs.Fill.{prepend, prepend_more, prepend_none, put_first}

-- ---- bounds and count

abbrev Bound : List ℕ → (at v to : ℕ) → Type 0
Bound p at v to = gave v to (rest p to) ≡ number bound_width is_bound at (rest p at)

then : {A B : Type 0} (f : Reader A) (go : A → Reader B) (at : ℕ) (s : List ℕ) → ◌▹◌ f go at s ≡ after_step (f at s) go
unfolding ◌▹◌
then f go at s = refl

-- where a bound ends, and that it has 16 bits
pub record Bounded (at v to : ℕ) : Type 0 where
  pub on : to ≡ at + bound_width
  pub small : v < 65536

pub bounded : (p : List ℕ) (at : ℕ) {v to : ℕ} → Bound p at v to → Bounded at v to
bounded p at {v} e =
    let b = behind pack_rule bound_width at is_bound (rest p at) e in
    let s = bound_bits v (true→T (is_bound v) b.kept) in
    record { on = b.on; small = omega arith }

module _ (p : List ℕ) (at known total used : ℕ) where
  abbrev whole : FieldStep Range
  whole = read_range known total used at (rest p at)

  pub lower_broke : {n q : ℕ} → broke n q ≡ number bound_width is_bound at (rest p at) → whole ≡ broke n q
  unfolding read_range
  lower_broke e = stop _ _ (sym e)

  module _ {lower at₁ : ℕ} (a : Bound p at lower at₁) where
    pub upper_broke : {n q : ℕ} → broke n q ≡ number bound_width is_bound at₁ (rest p at₁) → whole ≡ broke n q
    unfolding read_range
    upper_broke e = go_on _ _ (sym a) (stop _ _ (sym e))

    module _ {upper at₂ : ℕ} (b : Bound p at₁ upper at₂) where
      pub count_broke : {n q : ℕ} → broke n q ≡ number count_width (count_rule total used) at₂ (rest p at₂) → whole ≡ broke n q
      unfolding read_range
      count_broke e = go_on _ _ (sym a) (go_on _ _ (sym b) (stop _ _ (sym e)))

      pub bounds_read : {count next : ℕ} → gave count next (rest p next) ≡ number count_width (count_rule total used) at₂ (rest p at₂)
          → BoundsIn p at known total used whole (record { lower = lower; upper = upper; count = count }) next
      unfolding read_range
      bounds_read {count} e =
          let x = bounded p at a in
          let y = bounded p at₁ b in
          let z = behind pack_rule count_width at₂ (count_rule total used) (rest p at₂) e in
          let o = z.on in
          record {
            fits = leb-true (used + count) total z.kept;
            on = omega arith;
            reads = go_on _ _ (sym a) (go_on _ _ (sym b) (go_on _ _ (sym e) (then _ _ _ _)));
          }

-- ---- category numbers

-- where a category number ends, and that it is known
pub record Known (known at v to : ℕ) : Type 0 where
  pub on : to ≡ at + number_width
  pub small : v < known

pub known_read : (p : List ℕ) (known at : ℕ) {v to : ℕ} → gave v to (rest p to) ≡ number number_width (λ c. ltb c known) at (rest p at) → Known known at v to
known_read p known at {v} e =
    let b = behind pack_rule number_width at (λ c. ltb c known) (rest p at) e in
    record { on = b.on; small = ltb-true v known b.kept }

-- ---- a range

module _ {p : List ℕ} {at known total used at₁ : ℕ} {g : FieldStep Range} {h : Bounds} (z : BoundsIn p at known total used g h at₁) where
  abbrev numbers : FieldStep (List ℕ)
  numbers = many h.count (number number_width (λ c. ltb c known)) at₁ (rest p at₁)

  pub range_broken : {n q : ℕ} → numbers ≡ broke n q → g ≡ broke n q
  unfolding after_step
  range_broken e = z.reads ∙ ap (λ o. after_step o (λ cs. give (with_bounds h.lower h.upper cs))) e

  pub range_in_lem : (next i : ℕ) (t₀ t₁ : Two) → Fills (le reference_size) numbers at₁ number_width h.count (reference_size * used) p t₀.references t₁.references next
      → t₁.ranges ≡ patch (range_slot_size * i) (slot_bytes (record { lower = h.lower; upper = h.upper; first = used; count = h.count })) t₀.ranges
      → RangeIn p at g total i used t₀ t₁ h.count next
  unfolding after_step give
  range_in_lem next i t₀ t₁ f e =
      let o = z.on in
      let q = f.on in
      record {
        range = with_bounds h.lower h.upper f.all;
        on = omega arith;
        fits = z.fits;
        reads = z.reads ∙ ap (λ o. after_step o (λ cs. give (with_bounds h.lower h.upper cs))) f.reads;
        size = f.size;
        in_ranges = e;
        in_references = f.is;
      }

-- ---- all ranges

ranges_on : (k known total used at : ℕ) (s : List ℕ) (x : Range) (at₁ : ℕ) (s₁ : List ℕ) → read_range known total used at s ≡ gave x at₁ s₁
    → read_ranges (suc k) known total used at s ≡ prepend (x ∷ []) (read_ranges k known total (used + length x.categories) at₁ s₁)
unfolding read_ranges ◌▹◌ after_step
ranges_on k known total used at s x at₁ s₁ e =
    ap (λ o. after_step o (λ y. ◌▹◌ (read_ranges k known total (used + length y.categories)) (λ ys. give (y ∷ ys)))) e
    ∙ put_first x (read_ranges k known total (used + length x.categories) at₁ s₁)

ranges_off : (k known total used at : ℕ) (s : List ℕ) (n q : ℕ) → read_range known total used at s ≡ broke n q → read_ranges (suc k) known total used at s ≡ broke n q
unfolding read_ranges ◌▹◌ after_step
ranges_off k known total used at s n q e =
    ap (λ o. after_step o (λ y. ◌▹◌ (read_ranges k known total (used + length y.categories)) (λ ys. give (y ∷ ys)))) e

-- after i of n ranges
pub record RangesGoing (p : List ℕ) (known total at₀ n : ℕ) (t : Two) (at used i : ℕ) : Type 0 where
  pub all : List Range
  pub upto : i ≤ n
  pub few : used ≤ total
  pub on : at ≡ at₀ + range_width * i + number_width * used
  pub size : length all ≡ i
  pub sum : references all ≡ used
  pub held : Ranged all t
  pub ranges_long : length t.ranges ≡ range_slot_size * max_ranges
  pub references_long : length t.references ≡ reference_size * max_references
  pub left : read_ranges n known total 0 at₀ (rest p at₀) ≡ prepend all (read_ranges (n - i) known total used at (rest p at))

pub zero_ranges : {t : Two} → Ranged [] t → length t.ranges ≡ range_slot_size * max_ranges
unfolding range_slots
zero_ranges h = ap length h.in_ranges ∙ padded_length (range_slot_size * max_ranges) [] (omega arith)

pub zero_references : {t : Two} → Ranged [] t → length t.references ≡ reference_size * max_references
zero_references h = ap length h.in_references ∙ padded_length (reference_size * max_references) [] (omega arith)

module _ (p : List ℕ) (known total at₀ n : ℕ) where
  pub no_range_yet : (t : Two) → Ranged [] t → RangesGoing p known total at₀ n t at₀ 0 0
  unfolding references
  no_range_yet t h =
      let e : n ≡ n - 0 = omega arith in
      record {
        all = [];
        upto = omega arith;
        few = omega arith;
        on = omega arith;
        size = refl;
        sum = refl;
        held = h;
        ranges_long = zero_ranges h;
        references_long = zero_references h;
        left = prepend_none (read_ranges n known total 0 at₀ (rest p at₀)) ∙ ap (λ m. prepend [] (read_ranges m known total 0 at₀ (rest p at₀))) e;
      }

  module _ (t : Two) (at used i : ℕ) (z : RangesGoing p known total at₀ n t at used i) (lt : i < n) where
    pub range_off : {m q : ℕ} → read_range known total used at (rest p at) ≡ broke m q → read_ranges n known total 0 at₀ (rest p at₀) ≡ broke m q
    range_off {m} {q} e =
        let k : n - i ≡ suc (n - (i + 1)) = omega arith in
        z.left ∙ ap (λ j. prepend z.all (read_ranges j known total used at (rest p at))) k
        ∙ ap (prepend z.all) (ranges_off (n - (i + 1)) known total used at (rest p at) m q e)

    pub range_more : n ≤ max_ranges → total ≤ max_references → (t₁ : Two) (count next : ℕ)
        → RangeIn p at (read_range known total used at (rest p at)) total i used t t₁ count next
        → RangesGoing p known total at₀ n t₁ next (used + count) (i + 1)
    range_more a b t₁ count next r =
        let gs = z.all in
        let x = r.range in
        let sz = z.size in
        let sm = z.sum in
        let c = r.size in
        let f = r.fits in
        let o = z.on in
        let o₁ = r.on in
        let k : n - i ≡ suc (n - (i + 1)) = omega arith in
        let j : length (gs ++ (x ∷ [])) ≡ length gs + 1 = length-append gs (x ∷ []) in
        let s : references (gs ++ (x ∷ [])) ≡ references gs + length x.categories = references_snoc gs x in
        let u : used + length x.categories ≡ used + count = omega arith in
        let slot_at : ℕ → ℕ → RangeSlot = λ m l. record { lower = x.lower; upper = x.upper; first = m; count = l } in
        record {
          all = gs ++ (x ∷ []);
          upto = omega arith;
          few = f;
          on = omega arith;
          size = omega arith;
          sum = omega arith;
          held =
              record {
                in_ranges = r.in_ranges
                    ∙ ap₂ (λ m l. patch (range_slot_size * m) (slot_bytes (slot_at used count)) l) (sym sz) z.held.in_ranges
                    ∙ ap₂ (λ m l. patch (range_slot_size * length gs) (slot_bytes (slot_at m l)) (padded (range_slot_size * max_ranges) (range_table gs))) (sym sm) (sym c)
                    ∙ ranges_more gs x (range_slot_size * max_ranges) (omega arith);
                in_references = r.in_references
                    ∙ ap₂ (λ m l. patch (reference_size * m) (joined (map (le reference_size) x.categories)) l) (sym sm) z.held.in_references
                    ∙ references_more gs x (reference_size * max_references) (omega arith);
              };
          ranges_long = ap length r.in_ranges ∙ patch_length _ _ t.ranges ∙ z.ranges_long;
          references_long = ap length r.in_references ∙ patch_length _ _ t.references ∙ z.references_long;
          left = z.left ∙ ap (λ m. prepend gs (read_ranges m known total used at (rest p at))) k
              ∙ ap (prepend gs) (ranges_on (n - (i + 1)) known total used at (rest p at) x next (rest p next) r.reads
              ∙ ap (λ m. prepend (x ∷ []) (read_ranges (n - (i + 1)) known total m next (rest p next))) u)
              ∙ prepend_more gs x (read_ranges (n - (i + 1)) known total (used + count) next (rest p next));
        }

  pub all_ranges : (t : Two) (at used i : ℕ) → RangesGoing p known total at₀ n t at used i → n ≤ i
      → RangesIn p at₀ (read_ranges n known total 0 at₀ (rest p at₀)) total n t used at
  unfolding read_ranges give
  all_ranges t at used i z h =
      let k : n - i ≡ 0 = omega arith in
      let u = z.upto in
      let o = z.on in
      let sz = z.size in
      let v : i ≡ n = omega arith in
      record {
        all = z.all;
        on = omega arith;
        few = z.few;
        reads = z.left ∙ ap (λ j. prepend z.all (read_ranges j known total used at (rest p at))) k ∙ ap (λ m. gave m at (rest p at)) (append-nil z.all);
        size = omega arith;
        sum = z.sum;
        held = z.held;
      }
