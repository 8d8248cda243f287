-- The five lengths that the reader asks for, tables of just these sizes, zero in all their places, and what lies past them.
-- Assumes nothing.
use Prim.Native.Nat.{ℕ}
use mathlib.Core.Path.{◌≡◌, refl, sym, ◌∙◌}
use mathlib.Core.Bool.{Bool, true}
use mathlib.Core.List.{List}
use lib.ListN.{length, take}
use lib.Seq.{length-take-le}
use Rattle.paper.specs.Sizes.{max_detail_bytes}
use Rattle.paper.specs.Tables.Lent.{zeroed}
use Rattle.room.proofs.Five.{Room, long_enough, room_is, zero_padded, zero_past}
use Rattle.unk.specs.Layout.{UnkTables}
use Rattle.unk.specs.Parse.{entries_size, offsets_size, places_size, members_size, room_for, has_room, in_room, past, behind, cleared}
use Rattle.unk.specs.Filled.{Sized, no_tables}

pub tables_is : (t : UnkTables) (a b c d e : List ℕ) → a ≡ t.entries → b ≡ t.offsets → c ≡ t.details → d ≡ t.places → e ≡ t.members
    → ◌≡◌ {A = UnkTables} (record { entries = a; offsets = b; details = c; places = d; members = e }) t
tables_is t a b c d e p q r s u = rw (p, q, r, s, u)

-- ---- refusal 1

pub room_asked : (a b c d e : ℕ) → room_for a b c d e ≡ long_enough entries_size offsets_size max_detail_bytes places_size members_size a b c d e
unfolding room_for long_enough
room_asked a b c d e = refl

abbrev pub RoomIn : UnkTables → Type 0
RoomIn t =
    Room entries_size offsets_size max_detail_bytes places_size members_size
    (length t.entries) (length t.offsets) (length t.details) (length t.places) (length t.members)

pub room_in : (t : UnkTables) → true ≡ has_room t → RoomIn t
room_in t h = room_is (room_asked _ _ _ _ _) h

pub roomy : (a b c d e : List ℕ) {x : Bool} → x ≡ room_for (length a) (length b) (length c) (length d) (length e) → x ≡ true
    → RoomIn (record { entries = a; offsets = b; details = c; places = d; members = e })
roomy a b c d e h n = room_in (record { entries = a; offsets = b; details = c; places = d; members = e }) (sym n ∙ h)

-- ---- parts of the sizes

pub parts_sized : (t : UnkTables) → RoomIn t
    → Sized (record {
      entries = take entries_size t.entries;
      offsets = take offsets_size t.offsets;
      details = take max_detail_bytes t.details;
      places = take places_size t.places;
      members = take members_size t.members;
    })
parts_sized t h =
    record {
      entries = length-take-le entries_size t.entries h.first;
      offsets = length-take-le offsets_size t.offsets h.second;
      details = length-take-le max_detail_bytes t.details h.third;
      places = length-take-le places_size t.places h.fourth;
      members = length-take-le members_size t.members h.fifth;
    }

-- ---- zero in every place

pub cleared_sized : (t : UnkTables) → Sized t → cleared t ≡ in_room no_tables
unfolding cleared in_room no_tables
cleared_sized t z =
    tables_is (in_room no_tables) _ _ _ _ _ (zero_padded entries_size t.entries z.entries) (zero_padded offsets_size t.offsets z.offsets)
    (zero_padded max_detail_bytes t.details z.details) (zero_padded places_size t.places z.places) (zero_padded members_size t.members z.members)

pub clear_each : (t : UnkTables) (a b c d e : List ℕ) → a ≡ zeroed entries_size t.entries → b ≡ zeroed offsets_size t.offsets
    → c ≡ zeroed max_detail_bytes t.details → d ≡ zeroed places_size t.places → e ≡ zeroed members_size t.members
    → record { entries = a; offsets = b; details = c; places = d; members = e } ≡ cleared t
unfolding cleared
clear_each t a b c d e p q r s u = tables_is (cleared t) a b c d e p q r s u

pub cleared_is : (t : UnkTables) → RoomIn t → behind (in_room no_tables) (past t) ≡ cleared t
unfolding behind in_room no_tables past cleared
cleared_is t h =
    tables_is (cleared t) _ _ _ _ _ (zero_past entries_size t.entries h.first) (zero_past offsets_size t.offsets h.second)
    (zero_past max_detail_bytes t.details h.third) (zero_past places_size t.places h.fourth) (zero_past members_size t.members h.fifth)
