-- `say::OutputWrite::write_all`: each turn takes a byte at least. Assumes nothing.
use lib.ListN.{length}
use Rattle.say.proofs.OutputWrite.write_all.Given as goal

abbrev pub decreases-loop-rest : goal.decreases-loop-rest
decreases-loop-rest g l = length l.rest
