-- Tables that are handed in, refusal 26: they hold together exactly where they are the layout of a reading that keeps the pack's rules.
-- Assumes nothing.
use Rattle.std.specs.Prelude.{◌≡◌, T}
use Rattle.paper.specs.Lists.{all}
use Rattle.paper.specs.Numbers.Bytes.{is_byte}
use Rattle.paper.specs.CharDef.Reading.{Reading}
use Rattle.paper.specs.Pack.Rules.{PackRules}
use Rattle.paper.specs.Tables.Layout.{Tables, layout, counts_of, used}
use Rattle.paper.specs.declared.Counts.{Counts}

-- a reading stands in the tables: it keeps every rule of a pack, the counts are its own, and up to them the tables are its layout
pub record HoldTogether (t : Tables) (n : Counts) (r : Reading) : Type 0 where
  pub rules : PackRules r
  pub counted : counts_of r ≡ n
  pub laid_out : layout r ≡ used n t

-- what a lent table of numbers holds is bytes; names are judged by their own rule
pub record OfBytes (t : Tables) : Type 0 where
  pub in_categories : T (all is_byte t.categories)
  pub in_definitions : T (all is_byte t.definitions)
  pub in_ranges : T (all is_byte t.ranges)
  pub in_references : T (all is_byte t.references)
