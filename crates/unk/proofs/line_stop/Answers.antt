-- `unk::line_stop` meets its contract, way by way. Assumes nothing.
use native.Mathlib.Omega.{arith}
use Rattle.unk.proofs.Ends.{stops_last, stops_empty, stops_CR, stops_other}
use Rattle.unk.proofs.line_stop.Goals as goal

pub returns-then-text-end : goal.returns-then-text-end
returns-then-text-end c = stops_last _ _ _ (c.requires) (omega arith)

pub returns-then-end-start : goal.returns-then-end-start
returns-then-end-start c = stops_empty _ _ _ (c.requires) (omega arith)

pub returns-then-text-last-eq-CR : goal.returns-then-text-last-eq-CR
returns-then-text-last-eq-CR c = stops_CR _ _ _ (c.requires) (omega arith) (omega arith) (c.if-text-last-eq-CR.true)

pub returns : goal.returns
returns c = stops_other _ _ _ (c.requires) (omega arith) (omega arith) (c.if-text-last-eq-CR.false)
