-- What `build_flat_table` promises: its answer, and what the two lent slices hold afterwards, in refusals too. Both follow from the tables handed
-- in and from what was lent: `flat_built` is the paper's answer, `given` the enum's case for it, `leaves` the memory that it leaves.
-- Assumes nothing.
use Rattle.std.specs.Prelude.{◌≡◌, ℕ, length, Result, Ok, Err}
use Rattle.std.proofs.Math.Option.{Option}
use Rattle.paper.specs.CharDef.Reading.{Reading}
use Rattle.paper.specs.Rows.Flat.{flat_index, flat_pool}
use Rattle.paper.specs.Rows.Build.{built, refused_by, places_needed, flat_built}
use Rattle.paper.specs.Rows.Build as answer
use Rattle.paper.specs.Tables.Layout.{Tables}
use Rattle.paper.specs.Computed.HandedIn.{decoded, handed_in}
use Rattle.paper.specs.declared.Counts.{Counts}
use Rattle.row.specs.Built.{ahead}
use Rattle.fill_flat.specs.Walked.{FlatRoom}
use Rattle.paper.specs.declared.Refusal.{Refusal}

-- ---- the answer

-- 26 where there is no reading, 16 where it has a row over 255, 17 where a slice is below the exact need
abbrev pub answer_to : Option Reading → FlatRoom → answer.Built
answer_to r lent = flat_built r (length lent.index) (length lent.pool)

-- the case of the enum for each answer of the paper: how many pool places were filled, or the number of the refusal, at place 0
abbrev pub given : Reading → answer.Built → Result ℕ Refusal
given r built = Ok (places_needed r)
given r (refused_by number) = Err (record { number = number; place = 0 })

-- ---- lent memory afterwards

-- an entry for each code point of the BMP, and the rows one behind another; "builders .. touch only what they fill"
unfoldable pub filled : Reading → FlatRoom → FlatRoom
filled r lent = record { index = ahead (flat_index r) lent.index; pool = ahead (flat_pool r) lent.pool }

-- a refusal "leaves lent memory unchanged"
abbrev pub leaves : Reading → answer.Built → FlatRoom → FlatRoom
leaves r built lent = filled r lent
leaves r (refused_by number) lent = lent

-- ---- both together: `decoded` is the reading of tables that hold together

pub record BuildsFlat (t : Tables) (n : Counts) (lent after : FlatRoom) (a : Result ℕ Refusal) : Type 0 where
  pub answer : a ≡ given (decoded t n) (answer_to (handed_in t n) lent)
  pub memory : after ≡ leaves (decoded t n) (answer_to (handed_in t n) lent) lent
