-- What the reader of a definition promises: the paper's own reader at the place where it begins, and how far the cursor went.
-- Assumes nothing.
use Rattle.std.specs.Prelude.{ℕ, ◌+◌, ◌≡◌, List}
use Rattle.paper.specs.CharDef.Reading as reading
use Rattle.paper.specs.Pack.Fields.{definition_width}
use Rattle.paper.specs.Computed.ReadPack.{gave, broke, read_definition}
use Rattle.field.specs.Cursor.{rest}
use Rattle.pack_body.specs.declared.Definition.{Definition}
use Rattle.std.specs.Prelude.{Err, Ok, Result}
use Rattle.field.specs.declared.BitCursor.{BitCursor}
use Rattle.paper.specs.declared.Refusal.{Refusal}

abbrev pub meant : Definition → reading.Definition
meant d = record { invoke = d.invoke; group = d.group; len = d.length }

pub record DefinitionIn (p : List ℕ) (at : ℕ) (d : Definition) (next : ℕ) : Type 0 where
  pub on : next ≡ at + definition_width
  pub reads : read_definition at (rest p at) ≡ gave (meant d) next (rest p next)

abbrev pub DefinitionIs : List ℕ → ℕ → Result (Definition × BitCursor) Refusal → Type 0
DefinitionIs p at (Ok (d, c)) = DefinitionIn p at d c.at
DefinitionIs p at (Err r) = read_definition at (rest p at) ≡ broke r.number r.place
