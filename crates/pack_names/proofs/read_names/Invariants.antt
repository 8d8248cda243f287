-- `pack_names::read_names` meets its contract. Assumes nothing.
use Rattle.pack_names.proofs.Naming.{NamesGoing}
use Rattle.pack_names.proofs.read_names.Given as goal

abbrev pub invariant-loop-i : goal.invariant-loop-i
invariant-loop-i l =
    NamesGoing l.pack l.fn.from.at l.n (record { names = l.names; categories = l.categories; marks = l.marks }) l.at.at l.used l.i
