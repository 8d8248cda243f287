-- `field::bits_at` meets its contract. Assumes nothing.
use native.Mathlib.Omega.{arith}
use mathlib.Core.Path.{ap, sym, ◌∙◌}
use Prim.Native.Nat.{ℕ, ◌-◌, ◌/◌, ◌%◌, ◌^◌}
use Rattle.field.proofs.Window.{window, masked, masked_lt}
use Rattle.field.proofs.bits_at.Goals as goal

pub overflow_cast-result : goal.overflow_cast-result
overflow_cast-result c =
    let a = c.args in
    record { fits = masked_lt (c.five-all.result / 2 ^ (40 - a.at % 8 - a.width)) a.width (omega arith) }

pub returns : goal.returns
returns c =
    let a = c.args in
    masked _ _ (omega arith)
    ∙ ap (λ (x : ℕ). x / 2 ^ (40 - a.at % 8 - a.width) % 2 ^ a.width) c.five-all.ensures
    ∙ sym (window a.pack.now a.at 5 a.width (λ k. (c.type_inv.pack k).fits) (omega arith))
