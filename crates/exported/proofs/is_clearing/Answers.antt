-- `exported::is_clearing` meets its contract: each run of numbers, and what lies between them. Assumes nothing.
use native.Mathlib.Omega.{arith}
use Rattle.exported.proofs.Clears.{below_4, from_4, below_18, from_18, below_23, from_23, above_25}
use Rattle.exported.proofs.is_clearing.Goals as goal

pub returns-in-4-to-13 : goal.returns-in-4-to-13
returns-in-4-to-13 c = from_4 _ (omega arith) (omega arith)

pub returns-in-4-to-13-2 : goal.returns-in-4-to-13-2
returns-in-4-to-13-2 c = from_18 _ (omega arith) (omega arith)

pub returns-in-4-to-13-3 : goal.returns-in-4-to-13-3
returns-in-4-to-13-3 c = from_23 _ (omega arith) (omega arith)

pub returns-in_default : goal.returns-in_default
returns-in_default c = below_4 _ (omega arith)

pub returns-in_default-2 : goal.returns-in_default-2
returns-in_default-2 c = below_18 _ (omega arith) (omega arith)

pub returns-in_default-3 : goal.returns-in_default-3
returns-in_default-3 c = below_23 _ (omega arith) (omega arith)

pub returns-in_default-4 : goal.returns-in_default-4
returns-in_default-4 c = above_25 _ (omega arith) (omega arith)
