-- What `build_lookup_table` promises: its answer, and what the four lent slices hold afterwards, in refusals too. Both follow from the tables
-- handed in and from what was lent: `answer_to` is the paper's answer, `given` the enum's case for it, `leaves` the memory that it leaves.
-- Assumes nothing.
use Rattle.std.specs.Prelude.{ℕ, ◌≡◌, List, ◌++◌, map, length, drop}
use Rattle.paper.specs.Lists.{offsets_from}
use Rattle.paper.specs.CharDef.Reading.{Reading}
use Rattle.paper.specs.Rows.Covering.{boundaries, rows}
use Rattle.paper.specs.Rows.Flat.{flat_pool}
use Rattle.paper.specs.Rows.Build.{built, refused_by, rows_needed, places_needed, rows_built}
use Rattle.paper.specs.Rows.Build as paper
use Rattle.paper.specs.Tables.Layout.{Tables}
use Rattle.paper.specs.Computed.HandedIn.{decoded, handed_in}
use Rattle.paper.specs.declared.Counts.{Counts}
use Rattle.fill_rows.specs.Walked.{RowRoom}
use Rattle.std.specs.Prelude.{Err, Ok, Result}
use Rattle.paper.specs.declared.Refusal.{Refusal}
use Rattle.row.specs.declared.RowCounts.{RowCounts}

-- ---- the answer

-- 26 where the tables do not hold together, 17 where a slice is below the exact need
abbrev pub answer_to : Tables → Counts → RowRoom → paper.Built
answer_to t n lent = rows_built (handed_in t n) (length lent.boundaries) (length lent.starts) (length lent.lengths) (length lent.pool)

-- the case of the enum for each answer of the paper: the counts of the reading's rows, or the number of the refusal, at place 0
abbrev pub given : Reading → paper.Built → Result RowCounts Refusal
given r built = Ok (record { rows = rows_needed r; places = places_needed r })
given r (refused_by number) = Err (record { number = number; place = 0 })

-- ---- lent memory afterwards

-- "Builders .. touch only what they fill": what lies behind stays
abbrev pub ahead : List ℕ → List ℕ → List ℕ
ahead x l = x ++ drop (length x) l

unfoldable pub filled : Reading → RowRoom → RowRoom
unfolding boundaries rows flat_pool
filled r lent =
    record {
      boundaries = ahead (boundaries r) lent.boundaries;
      starts = ahead (offsets_from 0 (rows r)) lent.starts;
      lengths = ahead (map length (rows r)) lent.lengths;
      pool = ahead (flat_pool r) lent.pool;
    }

-- a refusal "leaves lent memory unchanged"
abbrev pub leaves : Reading → paper.Built → RowRoom → RowRoom
leaves r built lent = filled r lent
leaves r (refused_by number) lent = lent

-- ---- both together: `decoded` is the reading of tables that hold together

pub record BuildsRows (t : Tables) (n : Counts) (lent after : RowRoom) (a : Result RowCounts Refusal) : Type 0 where
  pub answer : a ≡ given (decoded t n) (answer_to t n lent)
  pub memory : after ≡ leaves (decoded t n) (answer_to t n lent) lent
