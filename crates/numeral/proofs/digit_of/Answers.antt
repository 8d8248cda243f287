-- `digit_of` answers the paper's `digit_of`: an arm of the `match` is one of its three runs, or a gap beside them.
-- Assumes nothing.
use native.Mathlib.Omega.{arith}
use Rattle.numeral.proofs.Digits.{below, above, decimal, upper, lower, none_here}
use Rattle.numeral.proofs.digit_of.Goals as goal

pub returns-in-48-to-57 : goal.returns-in-48-to-57
returns-in-48-to-57 c = decimal _ _ (omega arith) (omega arith) (omega arith)

pub returns-in-65-to-70 : goal.returns-in-65-to-70
returns-in-65-to-70 c = upper _ _ (omega arith) (omega arith) (omega arith)

pub returns-in-97-to-102 : goal.returns-in-97-to-102
returns-in-97-to-102 c = lower _ _ (omega arith) (omega arith) (omega arith)

pub returns-in_default : goal.returns-in_default
returns-in_default c =
    let b = c.args.b in
    none_here b (below 48 57 b (omega arith)) (below 65 70 b (omega arith)) (below 97 102 b (omega arith))

pub returns-in_default-2 : goal.returns-in_default-2
returns-in_default-2 c =
    let b = c.args.b in
    none_here b (above 48 57 b (omega arith)) (below 65 70 b (omega arith)) (below 97 102 b (omega arith))

pub returns-in_default-3 : goal.returns-in_default-3
returns-in_default-3 c =
    let b = c.args.b in
    none_here b (above 48 57 b (omega arith)) (above 65 70 b (omega arith)) (below 97 102 b (omega arith))

pub returns-in_default-4 : goal.returns-in_default-4
returns-in_default-4 c =
    let b = c.args.b in
    none_here b (above 48 57 b (omega arith)) (above 65 70 b (omega arith)) (above 97 102 b (omega arith))
