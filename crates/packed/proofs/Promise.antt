-- What the promise of the packed lookup says: 14 where there is no scalar value, and over a flat table as built the reading's entry. Idea: the paper's
-- theorems on its own answer, carried over to the enum. That the entry addresses the covering rule is shown in `lookup`.
-- Assumes nothing.
use Prim.Native.Nat.{ℕ, ◌<◌}
use mathlib.Core.Path.{◌≡◌, refl, ap}
use mathlib.Core.Bool.{not}
use mathlib.Core.List.{List}
use mathlib.Core.Option.{Option, none, some}
use lib.Dec.{T}
use Rattle.paper.specs.Sizes.{bmp_size}
use Rattle.paper.specs.Refusals.{not_scalar}
use Rattle.paper.specs.Text.Scalar.{is_scalar, IsScalar}
use Rattle.paper.specs.CharDef.Reading.{Reading}
use Rattle.paper.specs.Rows.Flat.{entry_offset, entry_length, flat_entry}
use Rattle.paper.specs.Rows.Lookup.{Looked, gives, refuses, LookupTables, FlatLeft, packed_at}
use Rattle.paper.proofs.Apart.{zero_one}
use Rattle.paper.proofs.Rows.Lookup.{packed_no_scalar}
use Rattle.paper.proofs.Rows.AsBuilt.{packed_there}
use Rattle.packed.specs.declared.Packed.{Packed}
use Rattle.packed.specs.Entries.{packed}
use Rattle.std.specs.Prelude.{Err, Ok, Some}

-- 14 where c is no scalar value
pub no_packed : (index : List ℕ) (c : ℕ) → T (not (is_scalar c)) → packed (packed_at index c) ≡ Err (record { number = not_scalar; place = 0 })
no_packed index c n = ap packed (packed_no_scalar index c n)

-- a part that is there is the offset and the length of some entry
pub entry_of : (a : Looked (Option ℕ)) (p : Packed) → packed a ≡ Ok (Some p)
    → (e : ℕ) × ((a ≡ gives (some e)) × (p ≡ record { offset = entry_offset e; len = entry_length e }))
entry_of (gives (some e)) p h = (e, (refl, cc))
entry_of (gives none) p h = zero_one (cc)
entry_of (refuses n) p h = zero_one (cc)

-- with a flat table there is an entry at every scalar value of the BMP
module _ (r : Reading) (t : LookupTables) (left : FlatLeft r t) (c : ℕ) (s : IsScalar c) (low : c < bmp_size) where
  pub built_packed : packed (packed_at t.index c) ≡ Ok (Some (record { offset = entry_offset (flat_entry r c); len = entry_length (flat_entry r c) }))
  built_packed = ap packed (packed_there r t left c s low)
