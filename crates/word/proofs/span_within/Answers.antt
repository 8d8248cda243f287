-- `word::span_within` meets its contract: the part, where it ends inside the table. Assumes nothing.
use native.Mathlib.Omega.{arith}
use mathlib.Core.Path.{sym, ap}
use Rattle.word.specs.Words.{found}
use Rattle.word.proofs.Words.{part_past, part_there}
use Rattle.word.proofs.span_within.Goals as goal
use Rattle.word.proofs.span_within.Goals.{then-bytes-start-via-then-bytes-start, then-bytes-start-via-else-bytes-start+then-bytes-start-2}

pub returns-then-bytes-start : goal.returns-then-bytes-start
returns-then-bytes-start c =
    sym (ap found (part_past c.args.bytes _
    (elim c.then-bytes-start.branch [ then-bytes-start-via-then-bytes-start w ↦ omega arith | then-bytes-start-via-else-bytes-start+then-bytes-start-2 w ↦ omega arith ])))

pub returns : goal.returns
returns c = sym (ap found (part_there c.args.bytes _ (omega arith)))
