-- `lines::line_len` meets its contract: the position of the LF, or the text's length.
-- Assumes nothing.
use Rattle.std.proofs.Common.{rules, tests, ◌∙◌}
use Rattle.std.proofs.lemmas.Iterator.{YieldsList-from_slice}
use Rattle.std.proofs.lemmas.Iterator.Search.{position_from_yields_List}
use Rattle.paper.specs.CharDef.Reading.{is_lf}
use Rattle.lines.proofs.Scan.{found_or_end}
use Rattle.lines.proofs.line_len.Goals as goal

pub returns : goal.returns
returns c =
    let text = c.args.text.now in
    let found = position_from_yields_List is_lf _ _ _ c.position.ensures.ran (YieldsList-from_slice text cc) (λ x b q k. search (rules, tests)) in
    c.unwrap_or.ensures ∙ found_or_end is_lf text found
