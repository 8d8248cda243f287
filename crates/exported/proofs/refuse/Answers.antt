-- `exported::refuse` meets its contract. The search finds this sum too; with the answer an edit of the unit is refused at a fact. Assumes nothing.
use native.Mathlib.Omega.{arith}
use Rattle.exported.proofs.refuse.Goals as goal

pub returns-clause-number : goal.returns-clause-number
returns-clause-number c = omega arith
