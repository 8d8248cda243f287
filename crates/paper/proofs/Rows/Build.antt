-- The exact needs are the lengths of what is filled (`exact`), rooms of the stated sizes are never below them, and 16 is given exactly when
-- the rows are not all short.
-- Assumes nothing.
use Prim.Native.Nat.{ℕ}
use mathlib.Core.Path.{◌≡◌, refl, sym, ap₂, ◌∙◌}
use mathlib.Core.Bool.{Bool, true, false, not, ◌&&◌, ◌||◌}
use mathlib.Core.List.{List, [], ◌∷◌}
use mathlib.Core.Option.{some}
use lib.Dec.{leb, ltb}
use lib.ListN.{length, length-map}
use borrow.Author.Tests.{leb-true, leb-false, lt-ltb, le-ltb}
use Rattle.paper.specs.Sizes.{max_rows, max_row_places, max_pack_bytes, max_flat_row, bmp_size}
use Rattle.paper.specs.Lists.{all, any}
use Rattle.paper.specs.CharDef.Reading.{Reading}
use Rattle.paper.specs.Rows.Covering.{rows}
use Rattle.paper.specs.Rows.Flat.{short_rows, flat_pool}
use Rattle.paper.specs.Rows.Build.{rows_needed, places_needed, row_overlong, built, rows_built, flat_built, pack_written, ExactNeeds}
use Rattle.paper.specs.Pack.Rules.{PackRules}
use Rattle.paper.proofs.Lists.Facts.{joined_length, offsets_length}
use Rattle.paper.proofs.Rows.Boundaries.{row_for_each}
use Rattle.paper.proofs.Rows.Sizes.{boundaries_fit, places_fit}
use Rattle.paper.proofs.Rows.Flat.{index_length}
use Rattle.paper.proofs.Pack.Size.{pack_length_lem}

above : (m n : ℕ) → ltb m n ≡ not (leb n m)
above m n = go (leb n m) refl
  where
    go : (b : Bool) → leb n m ≡ b → ltb m n ≡ not b
    go true e = le-ltb m n (leb-true n m e)
    go false e = lt-ltb m n (leb-false n m e)

-- 16 where not every row is short
pub overlong_is : (r : Reading) → row_overlong r ≡ not (short_rows (rows r))
unfolding row_overlong short_rows
overlong_is r = go (rows r)
  where
    demorgan : (a b : Bool) → (not a || not b) ≡ not (a && b)
    demorgan true b = refl
    demorgan false b = refl

    go : (ws : List (List ℕ)) → any (λ w. ltb max_flat_row (length w)) ws ≡ not (all (λ w. leb (length w) max_flat_row) ws)
    go [] = refl
    go (w ∷ ws) = ap₂ (λ x y. x || y) (above max_flat_row (length w)) (go ws) ∙ demorgan (leb (length w) max_flat_row) _

-- the exact needs are the lengths of what is filled
pub exact : (r : Reading) → ExactNeeds r
unfolding rows_needed places_needed flat_pool
exact r =
    record {
      of_boundaries = refl;
      of_starts = sym (offsets_length 0 (rows r) ∙ row_for_each r);
      of_lengths = sym (length-map (rows r) length ∙ row_for_each r);
      of_pool = sym (joined_length (rows r));
      of_index = sym (index_length r);
    }

-- ---- rooms of the full sizes

module _ (r : Reading) (k : PackRules r) where
  enough_rows : ltb max_rows (rows_needed r) ≡ false
  unfolding rows_needed
  enough_rows = le-ltb max_rows _ (boundaries_fit r k.limits)

  enough_places : ltb max_row_places (places_needed r) ≡ false
  unfolding places_needed
  enough_places = le-ltb max_row_places _ (places_fit r k.limits k.known)

  pub rows_always : rows_built (some r) max_rows max_rows max_rows max_row_places ≡ built
  unfolding rows_built
  rows_always = rw (enough_rows, enough_places)

  pub flat_always : row_overlong r ≡ false → flat_built (some r) bmp_size max_row_places ≡ built
  unfolding flat_built
  flat_always e = rw (e, enough_places)

  pub pack_always : pack_written (some r) max_pack_bytes ≡ built
  unfolding pack_written
  pack_always = rw (le-ltb max_pack_bytes _ (pack_length_lem r k.limits))
