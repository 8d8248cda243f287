-- `pack_names::place_name` meets its contract. Assumes nothing.
use native.Mathlib.Omega.{arith}
use Prim.Native.Nat.{◌+◌, ◌-◌}
use mathlib.Core.Path.{◌≡◌, ap, ◌∙◌}
use lib.ListN.{take, drop, set}
use Rattle.mark.specs.Mark.{mark}
use Rattle.pack_names.proofs.Names.{two_puts}
use Rattle.pack_names.proofs.place_name.Goals as goal

pub returns : goal.returns
returns c =
    let a = c.args in
    let k : a.start + a.len - a.start ≡ a.len = omega arith in (
      two_puts _ _ _ _ _ _ (omega arith) c.put_u16.ensures
          c.put_u16-2.ensures,
      ap (set a.marks.now a.i) (c.mark_of.ensures ∙ ap (λ m. mark (take m (drop a.start a.names.now))) k),
    )
