-- `unk_line::find_byte` meets its contract: the position of the byte in the part, which ends at the text's end where it reaches past it. Assumes nothing.
use Rattle.std.proofs.Common.{◌+◌, rules, tests, ap, ◌∙◌, length, drop}
use Rattle.std.proofs.lemmas.Iterator.{YieldsList-from_slice}
use Rattle.std.proofs.lemmas.Iterator.Search.{position_from_yields_List}
use Rattle.std.proofs.lemmas.Slice.{between_is}
use Rattle.paper.specs.Lists.{until, is}
use Rattle.numeral.proofs.Smaller.{least_min}
use Rattle.unk_line.proofs.Scan.{found_or_end, cut_at_end}
use Rattle.unk_line.proofs.find_byte.Goals as goal

pub returns : goal.returns
returns c =
    let a = c.args in
    let part = c.in-Some.part.now in
    let found = position_from_yields_List (is a.byte) _ _ _ c.position.ensures.ran (YieldsList-from_slice part cc) (λ x b q k. search (rules, tests)) in
    let is_part = c.in-Some.ensures.lookup.0.2 ∙ between_is a.text.now a.start c.min.result ∙ ap (drop a.start) (cut_at_end a.text.now a.end (least_min _ _ c.min.ensures)) in
    ap (λ n. a.start + n) (c.unwrap_or.ensures ∙ found_or_end (is a.byte) part found ∙ ap (λ l. length (until (is a.byte) l)) is_part)
