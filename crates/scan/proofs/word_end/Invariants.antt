-- `scan::word_end` meets its contract: the word that is left ends where the word does.
-- Assumes nothing.
use Prim.Native.Nat.{◌+◌, ◌≤◌}
use mathlib.Core.Path.{◌≡◌}
use lib.ListN.{length, take, drop}
use Rattle.scan.specs.Answer.{word_run}
use Rattle.scan.proofs.word_end.Given as goal

abbrev pub invariant-loop-at : goal.invariant-loop-at
invariant-loop-at l =
    (l.at ≤ l.end)
    × (l.at + length (word_run l.white (drop l.at (take l.end l.text))) ≡ l.start + length (word_run l.white (drop l.start (take l.end l.text))))
