-- Refusal 26, "tables handed in don't hold together", given exactly when no reading stands in them: the test is the relation `HoldTogether`,
-- one reading stands in tables at most, and laying a reading out and taking it back from tables undo one another.
-- The part of tables that counts name, with the rest behind it, is the whole; so tables that hold a reading are its layout and more.
-- Assumes nothing.
use Prim.Native.Nat.{◌*◌}
use mathlib.Core.Path.{◌≡◌, refl, sym, ap, ap₂, ◌∙◌}
use mathlib.Core.Logic.{◌↔◌}
use mathlib.Core.Bool.{Bool, true, false, cond}
use mathlib.Core.Option.{none, some}
use lib.Dec.{T}
use lib.ListN.{drop, take-append-drop}
use Rattle.paper.specs.CharDef.Reading.{Reading}
use Rattle.paper.specs.Pack.Rules.{PackRules}
use Rattle.paper.specs.Tables.Layout.{Tables, layout, counts_of, used, behind, name_slot_size, definition_size, range_slot_size, reference_size}
use Rattle.paper.specs.Tables.HandedIn.{HoldTogether, OfBytes}
use Rattle.paper.specs.Computed.HandedIn.{decoded, holds, handed_in}
use Rattle.paper.specs.declared.Counts.{Counts}
use Rattle.paper.proofs.Apart.{zero_one}
use Rattle.paper.proofs.Lists.Facts.{true→T}
use Rattle.paper.proofs.Tables.Trip.{tables_is, handed_in_lem, handed_holds, handed_back}

-- what stands behind the part that counts name
beyond : Counts → Tables → Tables
beyond n t =
    record {
      names = drop n.bytes t.names;
      categories = drop (name_slot_size * n.categories) t.categories;
      definitions = drop (definition_size * n.definitions) t.definitions;
      ranges = drop (range_slot_size * n.ranges) t.ranges;
      references = drop (reference_size * n.references) t.references;
    }

used_beyond : (t : Tables) (n : Counts) → behind (used n t) (beyond n t) ≡ t
unfolding behind used beyond
used_beyond t n =
    tables_is t _ _ _ _ _ (take-append-drop n.bytes t.names) (take-append-drop (name_slot_size * n.categories) t.categories)
    (take-append-drop (definition_size * n.definitions) t.definitions) (take-append-drop (range_slot_size * n.ranges) t.ranges) (take-append-drop (reference_size * n.references) t.references)

-- tables in which a reading stands are handed in as it
pub stands_handed : (t : Tables) (n : Counts) (r : Reading) → HoldTogether t n r → handed_in t n ≡ some r
stands_handed t n r h =
    ap₂ handed_in (sym (used_beyond t n) ∙ ap (λ l. behind l (beyond n t)) (sym h.laid_out)) (sym h.counted)
    ∙ handed_in_lem r (beyond n t) h.rules

handed_true : (t : Tables) (n : Counts) (r : Reading) → handed_in t n ≡ some r → T (holds t n)
unfolding handed_in
handed_true t n r e = go (holds t n) refl e
  where
    go : (b : Bool) → holds t n ≡ b → cond b (some (decoded t n)) none ≡ some r → T (holds t n)
    go true q e = true→T (holds t n) q
    go false q e = zero_one (cc)

-- ---- the theorems

-- tables of bytes pass the test of refusal 26 exactly where a reading stands in them
pub holds_exactly : (t : Tables) (n : Counts) → OfBytes t → T (holds t n) ↔ ((r : Reading) × HoldTogether t n r)
holds_exactly t n b = (λ u. (decoded t n, handed_holds t n b u), λ (r, h). handed_true t n r (stands_handed t n r h))

-- one reading at most
pub handed_one : (t : Tables) (n : Counts) (r q : Reading) → HoldTogether t n r → HoldTogether t n q → r ≡ q
handed_one t n r q h k =
    let e : some r ≡ some q = sym (stands_handed t n r h) ∙ stands_handed t n q k in
    cc

-- and `handed_in` gives it
pub handed_exactly : (t : Tables) (n : Counts) (r : Reading) → OfBytes t → (handed_in t n ≡ some r) ↔ HoldTogether t n r
handed_exactly t n r b = (λ e. handed_back t n r b e, λ h. stands_handed t n r h)

-- `layout` and `handed_in` undo one another: a reading's layout, whatever stands behind it, gives the reading back, and tables that give it are
-- its layout as far as they are used
pub handed_inverse : (r : Reading) → PackRules r
    → ((x : Tables) → handed_in (behind (layout r) x) (counts_of r) ≡ some r)
    × ((t : Tables) (n : Counts) → OfBytes t → handed_in t n ≡ some r → (layout r ≡ used n t) × (counts_of r ≡ n))
handed_inverse r k = (λ x. handed_in_lem r x k, λ t n b e. (let h = handed_back t n r b e in (h.laid_out, h.counted)))
