-- What the functions between the walk and the reader promise: tables of the sizes, filled or zero.
-- Assumes nothing.
use Rattle.std.specs.Prelude.{ℕ, ◌≤◌, ◌≡◌, true, false, List, [], map, length}
use Rattle.paper.specs.Sizes.{max_text_bytes, max_detail_bytes}
use Rattle.paper.specs.Lists.{joined, offsets_from}
use Rattle.paper.specs.Text.Scalar.{WellFormed}
use Rattle.paper.specs.Numbers.Bytes.{le, u32_size}
use Rattle.paper.specs.Unk.Entry.{Entry, stored}
use Rattle.paper.specs.Unk.Bad.{refused}
use Rattle.paper.specs.Computed.HandedIn.{holds, handed_in}
use Rattle.paper.specs.Computed.ReadUnk.{Entries, entries_are, stops}
use Rattle.paper.specs.Tables.Layout.{Tables}
use Rattle.paper.specs.Tables.Reader.{clears}
use Rattle.paper.specs.declared.Counts.{Counts}
use Rattle.unk_enter.specs.declared.UnkCounts.{UnkCounts}
use Rattle.unk.specs.Layout.{UnkTables}
use Rattle.unk_enter.specs.Lines.{entry_bytes}
use Rattle.unk_members.specs.Members.{lists_from, place_table, member_table}
use Rattle.unk.specs.Parse.{in_room, over_reading, entries_size, offsets_size, places_size, members_size}
use Rattle.std.specs.Prelude.{Err, Ok, Result}
use Rattle.paper.specs.declared.Refusal.{Refusal}

pub record Sized (t : UnkTables) : Type 0 where
  pub entries : length t.entries ≡ entries_size
  pub offsets : length t.offsets ≡ offsets_size
  pub details : length t.details ≡ max_detail_bytes
  pub places : length t.places ≡ places_size
  pub members : length t.members ≡ members_size

-- tables with nothing in them
unfoldable pub no_tables : UnkTables
no_tables = record { entries = []; offsets = []; details = []; places = []; members = [] }

-- the entries' marks
abbrev pub marks_of : (List ℕ → ℕ) → List Entry → List ℕ
marks_of mark es = map (λ e. mark e.category) es

-- the tables of entries, over `count` categories
unfoldable pub laid_out : (List ℕ → ℕ) → ℕ → List Entry → UnkTables
laid_out mark count es =
    record {
      entries = joined (map (entry_bytes mark) es);
      offsets = joined (map (le u32_size) (offsets_from 0 (map stored es)));
      details = joined (map stored es);
      places = place_table (map length (lists_from 0 count (marks_of mark es)));
      members = member_table (lists_from 0 count (marks_of mark es));
    }

pub record LinesAccepted (mark : List ℕ → ℕ) (count : ℕ) (a : Entries) (after : UnkTables) (c : UnkCounts) : Type 0 where
  pub entries : List Entry
  pub is : a ≡ entries_are entries
  pub entries_counted : c.entries ≡ length entries
  pub bytes_counted : c.bytes ≡ length (joined (map stored entries))
  pub tables : after ≡ in_room (laid_out mark count entries)

-- nothing is said of the tables where the walk stopped
abbrev pub TablesFilled : (List ℕ → ℕ) → ℕ → Entries → UnkTables → Result UnkCounts Refusal → Type 0
TablesFilled mark count a after (Ok c) = LinesAccepted mark count a after c
TablesFilled mark count a after (Err x) = a ≡ stops x.number x.place

pub record LinesRefused (a : Entries) (after : UnkTables) (number place : ℕ) : Type 0 where
  pub is : a ≡ stops number place
  pub tables : after ≡ in_room no_tables

abbrev pub LinesRead : (List ℕ → ℕ) → ℕ → Entries → UnkTables → Result UnkCounts Refusal → Type 0
LinesRead mark count a after (Ok c) = LinesAccepted mark count a after c
LinesRead mark count a after (Err x) = LinesRefused a after x.number x.place

-- ---- before any line: 26, 2, 3

pub record SoundInput (t : Tables) (n : Counts) (text : List ℕ) : Type 0 where
  pub holding : holds t n ≡ true
  pub short : length text ≤ max_text_bytes
  pub formed : WellFormed text

pub record UnsoundInput (t : Tables) (n : Counts) (text : List ℕ) (number place : ℕ) : Type 0 where
  pub is : over_reading (handed_in t n) text ≡ refused number place
  pub kept : clears number ≡ false

abbrev pub Judges : Tables → Counts → List ℕ → Result Unit Refusal → Type 0
Judges t n text (Ok unit) = SoundInput t n text
Judges t n text (Err x) = UnsoundInput t n text x.number x.place
