-- `unk::has_room` meets its contract: each comparison alone refuses. Assumes nothing.
use native.Mathlib.Omega.{arith}
use Rattle.room.proofs.Five.{no_room, has_room}
use Rattle.unk.proofs.Room.{room_asked}
use Rattle.unk.proofs.has_room.Goals as goal

pub returns-then-entries-lt-ENTRIES_SIZE : goal.returns-then-entries-lt-ENTRIES_SIZE
returns-then-entries-lt-ENTRIES_SIZE c = no_room (room_asked _ _ _ _ _) (λ h. omega arith)

pub returns-then-offsets-lt-OFFSETS_SIZE : goal.returns-then-offsets-lt-OFFSETS_SIZE
returns-then-offsets-lt-OFFSETS_SIZE c = no_room (room_asked _ _ _ _ _) (λ h. omega arith)

pub returns-then-details-lt-MAX_DETAIL_BYTES : goal.returns-then-details-lt-MAX_DETAIL_BYTES
returns-then-details-lt-MAX_DETAIL_BYTES c = no_room (room_asked _ _ _ _ _) (λ h. omega arith)

pub returns-then-places-lt-PLACES_SIZE : goal.returns-then-places-lt-PLACES_SIZE
returns-then-places-lt-PLACES_SIZE c = no_room (room_asked _ _ _ _ _) (λ h. omega arith)

pub returns-then-members-lt-MEMBERS_SIZE : goal.returns-then-members-lt-MEMBERS_SIZE
returns-then-members-lt-MEMBERS_SIZE c = no_room (room_asked _ _ _ _ _) (λ h. omega arith)

pub returns : goal.returns
returns c = has_room (room_asked _ _ _ _ _) (record { first = omega arith; second = omega arith; third = omega arith; fourth = omega arith; fifth = omega arith })
