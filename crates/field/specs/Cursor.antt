-- What the cursor promises: the paper's own readers at the place where it stands, for any bytes, any place and any width.
-- Assumes nothing.
use Rattle.std.specs.Prelude.{ℕ, ◌+◌, ◌*◌, ◌≤◌, ◌≡◌, Bool, true, false, cond, ◌&&◌, List, leb, drop}
use Rattle.paper.specs.Refusals.{pack_ends}
use Rattle.paper.specs.Pack.Fields.{byte_width, bits_of}
use Rattle.paper.specs.Computed.ReadPack.{FieldStep, gave, broke, number, free, bytes_field}
use Rattle.paper.specs.Tables.Lent.{patch}
use Rattle.std.specs.Prelude.{Err, Ok, Result}
use Rattle.field.specs.declared.BitCursor.{BitCursor}
use Rattle.paper.specs.declared.Refusal.{Refusal}

-- the widest field, in bits
abbrev pub widest : ℕ
widest = 32

-- the last position that a cursor can have: no pack in any machine's memory reaches it
abbrev pub last_place : ℕ
last_place = 18446744073709551615

-- the bits from a place on
unfoldable pub rest : List ℕ → ℕ → List ℕ
rest p at = drop at (bits_of p)

-- ---- a field

-- what the answer says, in the paper's words
abbrev pub said : List ℕ → Result (ℕ × BitCursor) Refusal → FieldStep ℕ
said p (Ok (v, c)) = gave v c.at (rest p c.at)
said p (Err r) = broke r.number r.place

-- the field of w bits at a place, whatever its number. A width that no field has is refused as a field that is cut
unfoldable pub field_at : List ℕ → ℕ → ℕ → FieldStep ℕ
unfolding rest
field_at p at w = cond (leb 1 w && (leb w widest && leb (at + w) last_place)) (number w free at (rest p at)) (broke pack_ends at)

-- ---- bytes as one field

abbrev pub any_bytes : List ℕ → Bool
any_bytes bs = true

-- the n bytes at a place, whatever they are. No bytes are no field
unfoldable pub bytes_field_at : List ℕ → ℕ → ℕ → FieldStep (List ℕ)
unfolding rest
bytes_field_at p at n = cond (leb 1 n && leb (at + byte_width * n) last_place) (bytes_field n any_bytes at (rest p at)) (broke pack_ends at)

-- they stand in the room from `to` on, and no other byte of it changed
pub record CopiedTo (p : List ℕ) (g : FieldStep (List ℕ)) (to : ℕ) (room₀ room₁ : List ℕ) (next : ℕ) : Type 0 where
  pub bytes : List ℕ
  pub is : g ≡ gave bytes next (rest p next)
  pub put : room₁ ≡ patch to bytes room₀

pub record NotCopied (g : FieldStep (List ℕ)) (room₀ room₁ : List ℕ) (number place : ℕ) : Type 0 where
  pub is : g ≡ broke number place
  pub kept : room₁ ≡ room₀

abbrev pub Runs : List ℕ → (at n to : ℕ) (room₀ room₁ : List ℕ) → Result BitCursor Refusal → Type 0
Runs p at n to room₀ room₁ (Ok c) = CopiedTo p (bytes_field_at p at n) to room₀ room₁ c.at
Runs p at n to room₀ room₁ (Err r) = NotCopied (bytes_field_at p at n) room₀ room₁ r.number r.place

-- ---- so many bits are left

-- a pack of `len` bytes has w bits behind a place, and a cursor can stand behind them
pub record Left (len at w : ℕ) : Type 0 where
  pub inside : at + w ≤ byte_width * len
  pub counted : at + w ≤ last_place

abbrev pub Has : ℕ → ℕ → ℕ → Bool → Type 0
Has len at w true = Left len at w
Has len at w false = Left len at w → ⊥
