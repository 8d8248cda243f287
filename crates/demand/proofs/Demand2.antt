-- Demand 2's lookups: what the builders leave of a reading's tables is what the lookups' promises ask.
-- Assumes nothing.
use mathlib.Core.Path.{◌≡◌, refl}
use mathlib.Core.List.{[]}
use mathlib.Core.Option.{some}
use Rattle.paper.specs.CharDef.Reading.{Reading}
use Rattle.paper.specs.Rows.Lookup as found
use Rattle.paper.specs.Rows.Lookup.{LookupTables, AsBuilt}
use Rattle.paper.specs.Tables.Layout.{Tables}
use Rattle.paper.specs.Computed.HandedIn.{handed_in}
use Rattle.paper.specs.declared.Counts.{Counts}
use Rattle.row.proofs.Promise.{rows_left}
use Rattle.flat.proofs.Promise.{flat_left}
use Rattle.numbered.proofs.Promise as numbered
use Rattle.lookup.proofs.Promise as lookup
use Rattle.demand.specs.Demand2.{FlatToo, no_flat, with_flat, BuiltOver, index_of, flat_of, lookup_tables, LooksUp, FindsByNumber}

as_built : (q : Reading) (t : LookupTables) → AsBuilt q t → LooksUp q t
as_built q t b =
    record {
      categories = λ c s. lookup.built_part q t b c s;
      never_refused = λ c s. lookup.built_given q t b c s;
      no_scalar = λ c n. lookup.no_place t c n;
      packed_same = λ c s p h. lookup.packed_part q t b c s p h;
    }

-- over any tables that hold together
pub looks_up : (t : Tables) (n : Counts) (q : Reading) → handed_in t n ≡ some q → (b : BuiltOver t n) → LooksUp q (lookup_tables b)
looks_up t n q e b = as_built q (lookup_tables b) (go b.flat)
  where
    go : (f : FlatToo t n)
        → AsBuilt q (record { index = index_of f; flat = flat_of f; boundaries = (lookup_tables b).boundaries; starts = (lookup_tables b).starts; lengths = (lookup_tables b).lengths; pool = (lookup_tables b).pool })
    go no_flat = found.without_flat (rows_left b.rows_built q e [] []) refl
    go (with_flat lent left places p) =
        found.with_flat (rows_left b.rows_built q e (index_of (with_flat lent left places p)) left.pool)
        (flat_left p q e (lookup_tables b).boundaries (lookup_tables b).starts (lookup_tables b).lengths (lookup_tables b).pool)

-- names and definitions by number over such tables
pub finds_by_number : (t : Tables) (n : Counts) (q : Reading) → handed_in t n ≡ some q → FindsByNumber q t n
finds_by_number t n q e =
    record {
      name_is_held = numbered.held_name t n q e;
      name_unknown = numbered.name_none t n q e;
      name_known = numbered.name_some t n q e;
      defined = numbered.defined t n q e;
    }
