-- What `write_pack` promises: its answer, and what the lent room holds afterwards, in refusals too. Both follow from the tables that are handed
-- in and from what was lent: `pack_written` is the paper's answer, and `pack_bytes` the pack.
-- Assumes nothing.
use Rattle.std.specs.Prelude.{ℕ, ◌≡◌, List, [], ◌++◌, length, drop}
use Rattle.std.proofs.Math.Option.{Option, none, some}
use Rattle.paper.specs.CharDef.Reading.{Reading}
use Rattle.paper.specs.Pack.Fields.{pack_bytes}
use Rattle.paper.specs.Rows.Build.{Built, built, refused_by, pack_written}
use Rattle.paper.specs.Tables.Layout.{Tables}
use Rattle.paper.specs.Computed.HandedIn.{handed_in}
use Rattle.paper.specs.declared.Counts.{Counts}
use Rattle.std.specs.Prelude.{Err, Ok, Result}
use Rattle.paper.specs.declared.Refusal.{Refusal}

-- the pack of the reading that is handed in; tables that hold none together have none
abbrev pub pack_of : Option Reading → List ℕ
pack_of none = []
pack_of (some r) = pack_bytes r

-- the enum's case for each answer of the paper: the pack's length in bytes; or the number, at place 0
abbrev pub given : Built → List ℕ → Result ℕ Refusal
given built pack = Ok (length pack)
given (refused_by number) pack = Err (record { number = number; place = 0 })

-- the pack, and what lies behind it as it was: "the pack writer touches only what it fills"; a refusal "leaves lent memory unchanged"
abbrev pub leaves : Built → List ℕ → List ℕ → List ℕ
leaves built pack lent = pack ++ drop (length pack) lent
leaves (refused_by number) pack lent = lent

pub record WritesPack (t : Tables) (n : Counts) (lent after : List ℕ) (r : Result ℕ Refusal) : Type 0 where
  pub answer : r ≡ given (pack_written (handed_in t n) (length lent)) (pack_of (handed_in t n))
  pub memory : after ≡ leaves (pack_written (handed_in t n) (length lent)) (pack_of (handed_in t n)) lent
