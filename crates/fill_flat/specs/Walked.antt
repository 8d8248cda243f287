-- The walk over the slots of two tables that fills a flat table: what it asks and what it leaves. Over tables that hold together it is the
-- reading's flat table, as the promise of crate `flat` shows.
-- Assumes nothing.
use Rattle.std.specs.Prelude.{ℕ, ◌≤◌, ◌<◌, ◌≡◌, List, [], length, get_or}
use Rattle.std.proofs.lemmas.List.Edits.{sets}
use Rattle.paper.specs.Sizes.{max_row_places}
use Rattle.paper.specs.Lists.{joined}
use Rattle.paper.specs.Rows.Flat.{RowFound, entry_of, offset_of}
use Rattle.cover.specs.Slots.{slots_got}
use Rattle.fill_rows.specs.Walked.{rows_of, Readable}

-- the two lent slices
pub record FlatRoom : Type 0 where
  pub index : List ℕ
  pub pool : List ℕ

-- entry e at each place from `from` up to `to`, as far as there are places
pub record Spread (from to e : ℕ) (l s : List ℕ) : Type 0 where
  pub long : length s ≡ length l
  pub before : (k : ℕ) → k < from → get_or s k 0 ≡ get_or l k 0
  pub there : (k : ℕ) → from ≤ k → k < to → k < length l → get_or s k 0 ≡ e

-- what a walk asks, where `ds` is the row of slots that name none: "the 24-bit offset never overflows"
pub record Buildable (ranges references : List ℕ) (count : ℕ) (ds : List ℕ) : Type 0 where
  pub readable : Readable ranges references count
  pub one : length ds ≤ 1
  pub offsets_fit : length (joined (rows_of ds (slots_got 0 count ranges) references)) ≤ max_row_places

-- the entry of c, whichever row is found
abbrev pub EntryAt : List ℕ → List (List ℕ) → ℕ → ℕ → Type 0
EntryAt bs ws c e = (i : ℕ) → RowFound bs c i → e ≡ entry_of (offset_of ws i) (length (get_or ws i []))

pub record FlatFilled (bs : List ℕ) (ws : List (List ℕ)) (lent after : FlatRoom) : Type 0 where
  pub long : length after.index ≡ length lent.index
  pub entries : (c : ℕ) → c < length lent.index → EntryAt bs ws c (get_or after.index c 0)
  pub pool : after.pool ≡ sets lent.pool 0 (joined ws)
