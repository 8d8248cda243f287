-- The packed entry of a code point, and one category of the flat pool, over any lent index and pool: the paper's answer for each case of the enums.
-- Assumes nothing.
use Rattle.std.specs.Prelude.{ℕ, cond, List, ltb, length, get_or}
use Rattle.std.proofs.Math.Option.{Option, none, some}
use Rattle.paper.specs.Refusals.{tables_apart}
use Rattle.paper.specs.Rows.Flat.{entry_offset, entry_length}
use Rattle.paper.specs.Rows.Lookup.{Looked, gives, refuses}
use Rattle.std.specs.Prelude.{Err, None, Ok, Result, Some}
use Rattle.packed.specs.declared.Packed.{Packed}
use Rattle.paper.specs.declared.Refusal.{Refusal}
use Rattle.std.specs.Prelude as code

-- a flat entry's offset and length
abbrev pub packed : Looked (Option ℕ) → Result (code.Option Packed) Refusal
packed (gives (some e)) = Ok (Some (record { offset = entry_offset e; len = entry_length e }))
packed (gives none) = (Ok None)
packed (refuses n) = Err (record { number = n; place = 0 })

-- "26 exactly when what they would answer runs past its table"
unfoldable pub category_in : List ℕ → ℕ → Looked ℕ
category_in pool i = cond (ltb i (length pool)) (gives (get_or pool i 0)) (refuses tables_apart)

abbrev pub category : Looked ℕ → Result ℕ Refusal
category (gives k) = Ok k
category (refuses n) = Err (record { number = n; place = 0 })
