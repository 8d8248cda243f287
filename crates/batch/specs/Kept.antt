-- A lent room after a reader ran: used bytes, then one byte up to its size, then the guard as it was filled.
-- Assumes nothing.
use Rattle.std.specs.Prelude.{ℕ, ◌≡◌, ◌≤◌, ◌-◌, List, EachIndex, slice_index, length, take, drop, min}
use Rattle.batch.specs.declared.Used.{Used}

abbrev pub IsFilled : ℕ → List ℕ → Type 0
IsFilled b xs = EachIndex xs (λ k. slice_index xs k ≡ b)

-- the byte of the guard, and how many there are
abbrev pub fill : ℕ
fill = 0xA5

abbrev pub guard : ℕ
guard = 16

abbrev pub size_of : List ℕ → ℕ
size_of room = length room - guard

abbrev pub past_used : ℕ → List ℕ → List ℕ
past_used used room = drop (min used (size_of room)) (take (size_of room) room)

abbrev pub past_size : List ℕ → List ℕ
past_size room = drop (size_of room) room

abbrev pub IsKept : ℕ → Used → Type 0
IsKept rest u = (guard ≤ length u.room.now) × IsFilled rest (past_used u.len u.room.now) × IsFilled fill (past_size u.room.now)
