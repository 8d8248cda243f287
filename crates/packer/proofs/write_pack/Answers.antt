-- `packer::write_pack` meets its contract: 26, 22, or the pack. Assumes nothing.
use native.Mathlib.Omega.{arith}
use borrow.Author.Rules.{rules}
use mathlib.Core.Path.{◌∙◌, sym}
use borrow.Author.Tests.{not-true}
use Rattle.table_rules.proofs.Tests.{passed}
use Rattle.put_parts.proofs.Handed.{asked}
use Rattle.packer.proofs.Length.{limited}
use Rattle.packer.proofs.Answer.{apart, short, written}
use Rattle.packer.proofs.write_pack.Goals as goal

pub returns-then-not-holds : goal.returns-then-not-holds
returns-then-not-holds c = apart _ _ _ _ (omega arith) (sym c.holds.ensures ∙ not-true _ (search rules))

pub pack_length-need-requires : goal.pack_length-need-requires
pack_length-need-requires c = limited _ _ (asked _ _ (passed _ _ c.holds.ensures (search rules)))

pub returns-then-out-need : goal.returns-then-out-need
returns-then-out-need c = short _ _ _ (passed _ _ c.holds.ensures (search rules)) _ (omega arith) (omega arith)

pub put_pack-requires : goal.put_pack-requires
put_pack-requires c = record { t = passed _ _ c.holds.ensures (search rules); counts_in_bounds = omega arith }

pub returns : goal.returns
returns c =
    written _ _ _
    (passed _ _ c.holds.ensures
    (search rules))
    _ _ c.pack_length-need.ensures (omega arith) c.put_pack.ensures
