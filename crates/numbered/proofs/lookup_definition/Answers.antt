-- `numbered::lookup_definition` meets its contract: past its tests, the entry that was read. Assumes nothing.
use native.Mathlib.Omega.{arith}
use mathlib.Core.Path.{refl}
use Rattle.numbered.proofs.Numbers.{definition_there}
use Rattle.numbered.proofs.lookup_definition.Goals as goal

pub returns : goal.returns
returns c = definition_there _ _ _ (omega arith) (omega arith) _ _ _ refl refl c.get_u32.ensures
