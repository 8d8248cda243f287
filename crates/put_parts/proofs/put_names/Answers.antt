-- `put_parts::put_names` meets its contract: each turn puts one name more. Assumes nothing.
use native.Mathlib.Omega.{arith}
use mathlib.Core.Path.{refl, ◌∙◌}
use Rattle.paper.specs.Tables.Layout.{pieces, split}
use Rattle.put_parts.specs.Parts.{lengths_in}
use Rattle.put_field.proofs.Writing.{puts_nothing, puts_both, puts_are}
use Rattle.put_parts.proofs.Names.{name_sum, name_fits, name_more}
use Rattle.put_parts.proofs.put_names.Goals as goal

pub loop-i-init : goal.loop-i-init
unfolding lengths_in pieces split
loop-i-init c = (refl, puts_nothing _ _ _ c.requires.room)

pub put_name-w-requires : goal.put_name-w-requires
put_name-w-requires c =
    let f = name_fits _ _ _ _ _ c.loop-i-test.true c.requires.n_in_bounds (c.from-len.ensures ∙ c.get_u16.ensures) c.loop-i.invariant.0 in
    record { n_in_bounds = omega arith; room = record { few = omega arith; room = omega arith } }

pub loop-i-preserved : goal.loop-i-preserved
loop-i-preserved c = (
  (let s = name_sum _ _ _ _ _ c.loop-i-test.true c.requires.n_in_bounds (c.from-len.ensures ∙ c.get_u16.ensures) c.loop-i.invariant.0 in omega arith),
  puts_are (puts_both c.loop-i.invariant.1 c.put_name-w.ensures)
      (name_more _ _ _ _ _ c.loop-i-test.true c.requires.n_in_bounds (c.from-len.ensures ∙ c.get_u16.ensures) c.loop-i.invariant.0 _)
      (omega arith),
)
