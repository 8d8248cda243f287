-- `text::valid_prefix` meets its contract. The loop's invariant: from here the decoder stops where it stops from the start.
-- Assumes nothing.
use Prim.Native.Nat.{◌-◌, ◌≤◌}
use mathlib.Core.Path.{◌≡◌}
use lib.ListN.{length}
use Rattle.paper.specs.Computed.Decode.{decode, prefix_of}
use Rattle.text.proofs.Prefix.{from}
use Rattle.text.proofs.valid_prefix.Given as goal

abbrev pub invariant-loop-at : goal.invariant-loop-at
invariant-loop-at l = (l.at ≤ length l.s) × (from l.s l.at ≡ prefix_of (decode l.s) (length l.s))

abbrev pub decreases-loop-at : goal.decreases-loop-at
decreases-loop-at l = length l.s - l.at
