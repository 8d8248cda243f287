-- `mark::mark_of` meets its contract. Assumes nothing.
use Rattle.std.proofs.Common.{rules, ◌∙◌}
use Rattle.std.proofs.lemmas.Iterator.{YieldsList-from_slice}
use Rattle.std.proofs.lemmas.Iterator.Consumers.{fold_from_yields_List}
use Rattle.mark.proofs.Mark.{step, mark_is}
use Rattle.mark.proofs.mark_of.Goals as goal

pub returns : goal.returns
returns c = fold_from_yields_List _ step _ _ c.fold.ensures.ran (YieldsList-from_slice c.args.name.now (cc)) (λ a x b q k. search rules) ∙ mark_is _
