-- `field::five` meets its contract. Assumes nothing.
use native.Mathlib.Omega.{arith}
use native.Mathlib.Nat.{add-zero}
use mathlib.Core.Path.{◌≡◌, ap}
use Prim.Native.Nat.{◌+◌}
use lib.ListN.{get_or}
use Rattle.field.specs.Bits.{bytes_value}
use Rattle.field.proofs.five.Goals as goal

pub returns-then-i-s : goal.returns-then-i-s
unfolding bytes_value
returns-then-i-s c =
    let a = c.args in
    let z : get_or a.s.now (a.i + 0) 0 ≡ get_or a.s.now a.i 0 = ap (λ k. get_or a.s.now k 0) (add-zero a.i) in
    omega arith

pub returns : goal.returns
unfolding bytes_value
returns c =
    let a = c.args in
    let z : get_or a.s.now (a.i + 0) 0 ≡ get_or a.s.now a.i 0 = ap (λ k. get_or a.s.now k 0) (add-zero a.i) in
    omega arith
