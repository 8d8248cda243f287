-- `cover::covering` meets its contract: what the ranges name, and where that is nothing the fallback.
-- Assumes nothing.
use native.Mathlib.Omega.{arith}
use Rattle.cover.proofs.Notes.{rowed_some, rowed_fallback, rowed_none}
use Rattle.cover.proofs.covering.Goals as goal

pub returns-then-at-to : goal.returns-then-at-to
returns-then-at-to c = rowed_some _ _ _ _ _ _ _ _ c.named-to.ensures _ (omega arith)

pub returns-in-Some : goal.returns-in-Some
returns-in-Some c = rowed_fallback _ _ _ _ _ _ _ _ c.named-to.ensures _ _ _ (omega arith) c.in-Some.is c.place.ensures

pub returns-in-None : goal.returns-in-None
returns-in-None c = rowed_none _ _ _ _ _ _ _ _ c.named-to.ensures _ (omega arith) c.in-None.is
