-- `field::byte_at` meets its contract. Assumes nothing.
use native.Mathlib.Omega.{arith}
use native.Mathlib.Nat.{add-zero}
use mathlib.Core.Path.{◌≡◌, ap, sym, ◌∙◌}
use Prim.Native.Nat.{◌+◌, ◌-◌, ◌/◌, ◌%◌, ◌^◌}
use lib.ListN.{get_or}
use Rattle.field.specs.Bits.{bytes_value}
use Rattle.field.proofs.Window.{window}
use Rattle.field.proofs.byte_at.Goals as goal

pub returns : goal.returns
unfolding bytes_value
returns c =
    let a = c.args in
    let z : get_or a.pack.now (a.at / 8 + 0) 0 ≡ get_or a.pack.now (a.at / 8) 0 = ap (λ k. get_or a.pack.now k 0) (add-zero (a.at / 8)) in
    let e : 16 - a.at % 8 - 8 ≡ 8 - a.at % 8 = omega arith in
    let two : c.from_be_bytes-two.result ≡ bytes_value a.pack.now (a.at / 8) 2 = omega arith in
    ap (λ x. x / 2 ^ (8 - a.at % 8) % 256) two
    ∙ ap (λ x. bytes_value a.pack.now (a.at / 8) 2 / 2 ^ x % 256) (sym e)
    ∙ sym (window a.pack.now a.at 2 8 (λ k. (c.type_inv.pack k).fits) (omega arith))
