-- What the reader of the head promises: the paper's own reader at the place where the part begins, and how far the cursor went.
-- Assumes nothing.
use Rattle.std.specs.Prelude.{ℕ, ◌+◌, ◌≤◌, ◌≡◌, List}
use Rattle.paper.specs.Sizes.{max_categories, max_category_lines, max_ranges, max_references}
use Rattle.paper.specs.CharDef.Reading.{Reading}
use Rattle.paper.specs.Pack.Fields.{categories_width, lines_width, ranges_width, references_width}
use Rattle.paper.specs.Computed.ReadPack.{FieldStep, broke, Reader, ◌▹◌}
use Rattle.paper.specs.Computed.ReadPack.{number, up_to, read_body}
use Rattle.field.specs.Cursor.{rest}
use Rattle.pack_head.specs.declared.Head.{Head}
use Rattle.std.specs.Prelude.{Err, Ok, Result}
use Rattle.field.specs.declared.BitCursor.{BitCursor}
use Rattle.paper.specs.declared.Refusal.{Refusal}

-- of the counts of ranges and references, and of all counts
abbrev pub last_width : ℕ
last_width = ranges_width + references_width

abbrev pub counts_width : ℕ
counts_width = categories_width + lines_width + last_width

-- what the paper reads behind the counts of categories and category lines
unfoldable pub read_last : ℕ → ℕ → Reader Reading
unfolding read_body
read_last categories lines =
    number ranges_width (up_to max_ranges) ▹ λ ranges.
    number references_width (up_to max_references) ▹ λ total.
    read_body categories lines ranges total

-- the counts are within the limits, and what is left to read is the body that they announce
pub record HeadIn (p : List ℕ) (at width : ℕ) (g : FieldStep Reading) (h : Head) (next : ℕ) : Type 0 where
  pub categories_fit : h.categories ≤ max_categories
  pub lines_fit : h.lines ≤ max_category_lines
  pub ranges_fit : h.ranges ≤ max_ranges
  pub references_fit : h.references ≤ max_references
  pub on : next ≡ at + width
  pub reads : g ≡ read_body h.categories h.lines h.ranges h.references next (rest p next)

abbrev pub HeadIs : List ℕ → (at width : ℕ) → FieldStep Reading → Result (Head × BitCursor) Refusal → Type 0
HeadIs p at width g (Ok (h, c)) = HeadIn p at width g h c.at
HeadIs p at width g (Err r) = g ≡ broke r.number r.place
