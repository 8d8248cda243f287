-- What readers of a pack's parts promise alike: how far a cursor may go, and things of one width that went into a table.
-- Assumes nothing.
use Rattle.std.specs.Prelude.{ℕ, ◌+◌, ◌*◌, ◌≡◌, List, map, length}
use Rattle.paper.specs.Sizes.{max_pack_bytes}
use Rattle.paper.specs.Lists.{joined}
use Rattle.paper.specs.Pack.Fields.{byte_width}
use Rattle.paper.specs.Computed.ReadPack.{FieldStep, gave, broke}
use Rattle.paper.specs.Tables.Lent.{patch}
use Rattle.field.specs.Cursor.{rest}
use Rattle.std.specs.Prelude.{Err, Ok, Result}
use Rattle.field.specs.declared.BitCursor.{BitCursor}
use Rattle.paper.specs.declared.Refusal.{Refusal}

-- "No pack exceeds 40,519 bytes": no field that is due stands behind so many bits, whatever the bytes are
abbrev pub max_place : ℕ
max_place = byte_width * max_pack_bytes

-- n things of one width that the paper reads one after another stand in a table from `start` on
pub record Fills {A : Type 0} (f : A → List ℕ) (g : FieldStep (List A)) (at width n start : ℕ) (p l₀ l₁ : List ℕ) (next : ℕ) : Type 0 where
  pub all : List A
  pub on : next ≡ at + width * n
  pub reads : g ≡ gave all next (rest p next)
  pub size : length all ≡ n
  pub is : l₁ ≡ patch start (joined (map f all)) l₀

abbrev pub Filled : {A : Type 0} → (A → List ℕ) → FieldStep (List A) → (at width n start : ℕ) (p l₀ l₁ : List ℕ) → Result BitCursor Refusal → Type 0
Filled f g at width n start p l₀ l₁ (Ok c) = Fills f g at width n start p l₀ l₁ c.at
Filled f g at width n start p l₀ l₁ (Err r) = g ≡ broke r.number r.place
