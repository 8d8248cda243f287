-- Demand 2 over the reading of an accepted text: every law of the rows, gathered from the files that prove them.
-- Assumes nothing.
use Prim.Native.Nat.{ℕ}
use mathlib.Core.Path.{sym, subst}
use mathlib.Core.List.{List}
use lib.Dec.{T}
use Rattle.paper.specs.CharDef.Reading.{Reading, Fits}
use Rattle.paper.specs.Rows.Covering.{rising, boundaries}
use Rattle.paper.specs.Rows.Lookup.{LookupTables, AsBuilt, without_flat, with_flat}
use Rattle.paper.specs.Rows.Lookups.{Lookups}
use Rattle.paper.specs.Pack.Rules.{PackRules}
use Rattle.paper.proofs.Text.Scalar.{surrogate, beyond}
use Rattle.paper.proofs.Rows.Boundaries.{boundaries_are, row_for_each}
use Rattle.paper.proofs.Rows.Sizes.{rows_fit, places_fit}
use Rattle.paper.proofs.Rows.Covered.{no_repeats, exactly_covered, first_sight_order, categories_named, categories_default}
use Rattle.paper.proofs.Rows.Search.{every_row}
use Rattle.paper.proofs.Rows.Flat.{flat_part_lem, offset_fits, entry_fits}
use Rattle.paper.proofs.Rows.Build.{exact}
use Rattle.paper.proofs.Rows.Lookup.{no_scalar, looks_one, looks_some, packed_same}
use Rattle.paper.proofs.Rows.AsBuilt.{looked_up, packed_there}
use Rattle.paper.proofs.Rows.Numbers.{name_found, name_back, number_name, number_definition}
use Rattle.paper.proofs.Pack.Kept.{fits_rules}
use Rattle.paper.proofs.Tables.Holds.{stands_handed}

built_rises : (r : Reading) (t : LookupTables) → AsBuilt r t → T (rising t.boundaries)
built_rises r t (without_flat l e) = subst (λ bs. T (rising bs)) (sym l.boundaries_are) (boundaries_are r).ascending
built_rises r t (with_flat l f) = subst (λ bs. T (rising bs)) (sym l.boundaries_are) (boundaries_are r).ascending

pub lookups : (bytes : List ℕ) (r : Reading) → Fits bytes r → Lookups r
lookups bytes r f = go (fits_rules bytes r f)
  where
    go : PackRules r → Lookups r
    go k =
        record {
          bounded = boundaries_are r;
          a_row_each = row_for_each r;
          rows_few = rows_fit r k.limits;
          places_few = places_fit r k.limits k.known;
          needs = exact r;
          by_row = every_row r;
          by_entry = flat_part_lem r;
          offset_fits = λ c. offset_fits r c k.limits k.known;
          entry_fits = λ c. entry_fits r c k.limits k.known;
          distinct_row = no_repeats r;
          exactly = exactly_covered r;
          first_seen = first_sight_order r;
          with_some = categories_named r;
          with_none = categories_default r;
          answer = looks_some;
          answers = looked_up r;
          one_answer = λ t c a b u. looks_one t c a b (built_rises r t u);
          no_surrogate = λ t c a l h. no_scalar t c a (surrogate c l h);
          nothing_beyond = λ t c a h. no_scalar t c a (beyond c h);
          packed = λ t c f. packed_there r t f c;
          packed_part = packed_same;
          finds = λ t n name h. name_found t n r (stands_handed t n r h) name;
          finds_back = λ t n k h. name_back t n r (stands_handed t n r h) k;
          names = λ t n k h. number_name t n r (stands_handed t n r h) k;
          defines = λ t n k h. number_definition t n r (stands_handed t n r h) k;
        }
