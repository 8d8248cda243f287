-- END TO END. From the bytes of an accepted char.def through `parse`, the builders and `lookup_categories` to the covering rule over the one reading
-- that fits those bytes; and the same from the bytes of an accepted pack.
-- Assumes nothing.
use Rattle.std.specs.Prelude.{ℕ, ◌≡◌, List, T, Ok}
use Rattle.paper.specs.Lists.{all}
use Rattle.paper.specs.Numbers.Bytes.{is_byte}
use Rattle.paper.specs.CharDef.Reading.{Reading, Fits}
use Rattle.paper.specs.Pack.Fields.{pack_bytes}
use Rattle.paper.specs.Pack.Rules.{PackRules}
use Rattle.paper.specs.Tables.Layout.{Tables}
use Rattle.paper.specs.declared.Counts.{Counts}
use Rattle.demand.specs.Demand2.{BuiltOver, lookup_tables, LooksUp, FindsByNumber}
use Rattle.demand.specs.Demand3.{Run}
use Rattle.demand.specs.Packs.{Unpacked}

-- one reading is the one that is meant, and all lookups over what was read and built are over it
pub record OneReading (Meant : Reading → Type 0) (t : Tables) (n : Counts) (b : BuiltOver t n) : Type 0 where
  pub reading : Reading
  pub meant : Meant reading
  pub no_other : (q : Reading) → Meant q → q ≡ reading
  pub lookups : LooksUp reading (lookup_tables b)
  pub by_number : FindsByNumber reading t n

abbrev pub FromText : List ℕ → Type 0
FromText text = (run : Run text) (n : Counts) → run.outcome ≡ Ok n → (b : BuiltOver run.left n) → OneReading (Fits text) run.left n b

-- the reading that has this pack
abbrev pub PackOf : List ℕ → Reading → Type 0
PackOf pack q = PackRules q × (pack_bytes q ≡ pack)

abbrev pub FromPack : List ℕ → Type 0
FromPack pack =
    T (all is_byte pack) → (run : Unpacked pack) (n : Counts) → run.outcome ≡ Ok n → (b : BuiltOver run.left n)
    → OneReading (PackOf pack) run.left n b
