-- `table_rules::flags_hold` meets its contract: its chunks are the entries. Assumes nothing.
use Rattle.std.proofs.Common.{rules, ◌≡◌, ◌*◌, take, length, ◌∙◌, ap, arith}
use Rattle.std.proofs.lemmas.Iterator.{YieldsList-from_slice}
use Rattle.std.proofs.lemmas.Iterator.Search.{all_from_yields_List}
use lib.Seq.{length-take-le}
use Rattle.paper.specs.Lists.{all}
use Rattle.paper.specs.Computed.HandedIn.{flagged}
use Rattle.table_rules.proofs.Chunks.{all_is, entries_are}
use Rattle.table_rules.proofs.flags_hold.Goals as goal

pub returns : goal.returns
unfolding flagged
returns c =
    let l = c.args.definitions.now in
    let k : length (take (6 * c.args.n) l) ≡ 6 * c.args.n = length-take-le (6 * c.args.n) l c.requires in
    all_from_yields_List flagged _ _ _ c.all.ensures.ran (YieldsList-from_slice c.as_chunks.result.0.now (cc)) (λ x b q k. search rules)
    ∙ all_is flagged c.as_chunks.result.0.now
    ∙ ap (all flagged) (c.as_chunks.ensures.front ∙ entries_are 6 c.args.n l c.requires (omega arith))
