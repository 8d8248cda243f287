-- What `min` says of places.
-- Assumes nothing.
use Prim.Native.Nat.{ℕ, min}
use native.Mathlib.Omega.{arith}
use mathlib.Core.Path.{◌≡◌}
use Rattle.numeral.specs.Asked.{Least}

pub least_min : (a b : ℕ) {r : ℕ} → r ≡ min a b → Least a b r
least_min a b {r} e = record { first = omega arith; second = omega arith; one = λ h. omega arith; other = λ h. omega arith }
