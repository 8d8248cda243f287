-- `exported::put_counts` meets its contract: five numbers one behind another. Assumes nothing.
use native.Mathlib.Omega.{arith}
use mathlib.Core.Path.{ap, ◌∙◌}
use Rattle.paper.specs.Numbers.Bytes.{le}
use Rattle.paper.specs.Tables.Lent.{patch}
use Rattle.exported.proofs.Given.{count_patches}
use Rattle.exported.proofs.put_counts.Goals as goal

pub overflow_cast-n-5 : goal.overflow_cast-n-5
overflow_cast-n-5 c = let s = c.requires.sixteen in omega arith

pub returns : goal.returns
returns c =
    c.put_u16-5.ensures
    ∙ ap (patch 8 (le 2 _)) (c.put_u16-4.ensures ∙ ap (patch 6 (le 2 _)) (c.put_u16-3.ensures ∙ ap (patch 4 (le 2 _)) (c.put_u16-2.ensures ∙ ap (patch 2 (le 2 _)) (c.put_u16.ensures))))
    ∙ count_patches _ _ _ _ _ _ (c.requires.counts_size_in_bounds)
