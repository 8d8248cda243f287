-- What the readers of ranges promise: the paper's own reader at the place where the part begins, what went into the tables, and how far
-- the cursor went.
-- Assumes nothing.
use Rattle.std.specs.Prelude.{ℕ, ◌+◌, ◌*◌, ◌≤◌, ◌≡◌, List, map, ltb, length}
use Rattle.paper.specs.Sizes.{max_ranges, max_references}
use Rattle.paper.specs.Lists.{joined}
use Rattle.paper.specs.Numbers.Bytes.{le}
use Rattle.paper.specs.CharDef.Reading.{Range, references}
use Rattle.paper.specs.Pack.Fields.{number_width, range_width}
use Rattle.paper.specs.Computed.ReadPack.{FieldStep, gave, broke, after_step, give}
use Rattle.paper.specs.Computed.ReadPack.{number, many}
use Rattle.paper.specs.Tables.Layout.{slot_bytes, range_table, reference_table, range_slot_size, reference_size}
use Rattle.paper.specs.Tables.Lent.{patch, padded}
use Rattle.field.specs.Cursor.{rest}
use Rattle.pack_ranges.specs.declared.Bounds.{Bounds}
use Rattle.std.specs.Prelude.{Err, Ok, Result}
use Rattle.field.specs.declared.BitCursor.{BitCursor}
use Rattle.paper.specs.declared.Refusal.{Refusal}

abbrev pub with_bounds : ℕ → ℕ → List ℕ → Range
with_bounds lower upper cs = record { lower = lower; upper = upper; categories = cs }

-- the bounds and the count keep their rules, and the range's category numbers are left to read
pub record BoundsIn (p : List ℕ) (at known total used : ℕ) (g : FieldStep Range) (h : Bounds) (next : ℕ) : Type 0 where
  pub fits : used + h.count ≤ total
  pub on : next ≡ at + range_width
  pub reads : g ≡ after_step (many h.count (number number_width (λ c. ltb c known)) next (rest p next)) (λ cs. give (with_bounds h.lower h.upper cs))

abbrev pub BoundsAre : List ℕ → (at known total used : ℕ) → FieldStep Range → Result (Bounds × BitCursor) Refusal → Type 0
BoundsAre p at known total used g (Ok (h, c)) = BoundsIn p at known total used g h c.at
BoundsAre p at known total used g (Err r) = g ≡ broke r.number r.place

-- what two tables hold
pub record Two : Type 0 where
  pub ranges : List ℕ
  pub references : List ℕ

-- a range stands in the two tables as number n, with `used` references before it
pub record RangeIn (p : List ℕ) (at : ℕ) (g : FieldStep Range) (total n used : ℕ) (t₀ t₁ : Two) (count next : ℕ) : Type 0 where
  pub range : Range
  pub on : next ≡ at + range_width + number_width * count
  pub fits : used + count ≤ total
  pub reads : g ≡ gave range next (rest p next)
  pub size : length range.categories ≡ count
  pub in_ranges : t₁.ranges ≡ patch (range_slot_size * n) (slot_bytes (record { lower = range.lower; upper = range.upper; first = used; count = count })) t₀.ranges
  pub in_references : t₁.references ≡ patch (reference_size * used) (joined (map (le reference_size) range.categories)) t₀.references

abbrev pub RangeIs : List ℕ → ℕ → FieldStep Range → (total n used : ℕ) → (t₀ t₁ : Two) → Result (ℕ × BitCursor) Refusal → Type 0
RangeIs p at g total n used t₀ t₁ (Ok (k, c)) = RangeIn p at g total n used t₀ t₁ k c.at
RangeIs p at g total n used t₀ t₁ (Err r) = g ≡ broke r.number r.place

-- the two tables hold these ranges, and zero after them
pub record Ranged (gs : List Range) (t : Two) : Type 0 where
  pub in_ranges : t.ranges ≡ padded (range_slot_size * max_ranges) (range_table gs)
  pub in_references : t.references ≡ padded (reference_size * max_references) (reference_table gs)

pub record RangesIn (p : List ℕ) (at : ℕ) (g : FieldStep (List Range)) (total n : ℕ) (t : Two) (used next : ℕ) : Type 0 where
  pub all : List Range
  pub on : next ≡ at + range_width * n + number_width * used
  pub few : used ≤ total
  pub reads : g ≡ gave all next (rest p next)
  pub size : length all ≡ n
  pub sum : references all ≡ used
  pub held : Ranged all t

abbrev pub RangesAre : List ℕ → ℕ → FieldStep (List Range) → (total n : ℕ) → Two → Result (ℕ × BitCursor) Refusal → Type 0
RangesAre p at g total n t (Ok (used, c)) = RangesIn p at g total n t used c.at
RangesAre p at g total n t (Err r) = g ≡ broke r.number r.place
