-- `scan::is_gap` meets its contract: each arm names the bytes that it answers for.
-- Assumes nothing.
use native.Mathlib.Omega.{arith}
use mathlib.Core.Path.{◌≡◌}
use Rattle.scan.proofs.Widths.{both_gaps, feeds, white_only, no_gaps}
use Rattle.scan.proofs.is_gap.Goals as goal

pub returns-in-10 : goal.returns-in-10
returns-in-10 c =
    let a = c.args in
    let n : a.b ≡ 0x09 → ⊥ = grind arith in
    white_only a.white (omega arith) (omega arith)

pub returns-in_default : goal.returns-in_default
returns-in_default c = no_gaps c.args.white (omega arith) (grind arith) (λ i. omega arith)

pub returns-in_default-2 : goal.returns-in_default-2
returns-in_default-2 c = no_gaps c.args.white (omega arith) (grind arith) (λ i. omega arith)

pub returns-in-9 : goal.returns-in-9
returns-in-9 c = both_gaps c.args.white c.in-9.is

pub returns-in-9-2 : goal.returns-in-9-2
returns-in-9-2 c = feeds c.args.white (omega arith) (omega arith)
