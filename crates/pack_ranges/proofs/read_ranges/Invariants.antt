-- `pack_ranges::read_ranges` meets its contract. Assumes nothing.
use Rattle.pack_ranges.proofs.Ranging.{RangesGoing}
use Rattle.pack_ranges.proofs.read_ranges.Given as goal

abbrev pub invariant-loop-i : goal.invariant-loop-i
invariant-loop-i l =
    RangesGoing l.pack l.known l.total l.fn.from.at l.n (record { ranges = l.ranges; references = l.references }) l.at.at l.used l.i
