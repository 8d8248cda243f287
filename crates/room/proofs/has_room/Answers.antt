-- `room::has_room` meets its contract: each comparison alone refuses. Assumes nothing.
use native.Mathlib.Omega.{arith}
use Rattle.room.proofs.Five.{no_room, has_room}
use Rattle.room.proofs.Sizes.{room_asked}
use Rattle.room.proofs.has_room.Goals as goal

pub returns-then-names-lt-MAX_NAME_BYTES : goal.returns-then-names-lt-MAX_NAME_BYTES
returns-then-names-lt-MAX_NAME_BYTES c = no_room (room_asked _ _ _ _ _) (λ h. omega arith)

pub returns-then-categories-lt-CATEGORIES_SIZE : goal.returns-then-categories-lt-CATEGORIES_SIZE
returns-then-categories-lt-CATEGORIES_SIZE c = no_room (room_asked _ _ _ _ _) (λ h. omega arith)

pub returns-then-definitions-lt-DEFINITIONS_SIZE : goal.returns-then-definitions-lt-DEFINITIONS_SIZE
returns-then-definitions-lt-DEFINITIONS_SIZE c = no_room (room_asked _ _ _ _ _) (λ h. omega arith)

pub returns-then-ranges-lt-RANGES_SIZE : goal.returns-then-ranges-lt-RANGES_SIZE
returns-then-ranges-lt-RANGES_SIZE c = no_room (room_asked _ _ _ _ _) (λ h. omega arith)

pub returns-then-references-lt-REFERENCES_SIZE : goal.returns-then-references-lt-REFERENCES_SIZE
returns-then-references-lt-REFERENCES_SIZE c = no_room (room_asked _ _ _ _ _) (λ h. omega arith)

pub returns : goal.returns
returns c = has_room (room_asked _ _ _ _ _) (record { first = omega arith; second = omega arith; third = omega arith; fourth = omega arith; fifth = omega arith })
