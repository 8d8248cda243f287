-- Definitions and names by number over any lent tables: the paper's answer for each case of the enums, and what the part of the name store that is
-- returned holds, "empty where the lookup refuses".
-- Assumes nothing.
use Rattle.std.specs.Prelude.{ℕ, List, []}
use Rattle.paper.specs.CharDef.Reading.{Definition}
use Rattle.paper.specs.Rows.Lookup.{Looked, gives, refuses}
use Rattle.paper.specs.Rows.Numbers.{name_in}
use Rattle.paper.specs.Tables.Layout.{NameSlot}
use Rattle.std.specs.Prelude.{Err, Ok, Result}
use Rattle.numbered.specs.declared.CategoryData.{CategoryData}
use Rattle.paper.specs.declared.Refusal.{Refusal}
use Rattle.packed.specs.declared.Span.{Span}

abbrev pub definition : Looked Definition → Result CategoryData Refusal
definition (gives d) = Ok (record { invoke = d.invoke; group = d.group; length = d.len })
definition (refuses n) = Err (record { number = n; place = 0 })

abbrev pub name : Looked NameSlot → Result Span Refusal
name (gives p) = Ok (record { start = p.start; len = p.len })
name (refuses n) = Err (record { number = n; place = 0 })

abbrev pub name_held : List ℕ → Looked NameSlot → List ℕ
name_held store (gives p) = name_in store p
name_held store (refuses n) = []
