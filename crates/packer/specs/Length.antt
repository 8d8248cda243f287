-- The length of a pack by its counts, for counts within the limits.
-- Assumes nothing.
use Rattle.std.specs.Prelude.{ℕ, ◌+◌, ◌/◌, ◌≤◌}
use Rattle.paper.specs.Sizes.{max_categories, max_name_bytes, max_category_lines, max_ranges, max_references}
use Rattle.paper.specs.Pack.Fields.{byte_width}
use Rattle.paper.specs.declared.Counts.{Counts}
use Rattle.put_parts.specs.Parts.{pack_width}

-- in bytes: "zero bits fill the last byte"
abbrev pub pack_length : Counts → ℕ
pack_length n = (pack_width n + 7) / byte_width

-- counts within the limits
pub record Limited (n : Counts) : Type 0 where
  pub categories_fit : n.categories ≤ max_categories
  pub names_fit : n.bytes ≤ max_name_bytes
  pub definitions_fit : n.definitions ≤ max_category_lines
  pub ranges_fit : n.ranges ≤ max_ranges
  pub references_fit : n.references ≤ max_references
