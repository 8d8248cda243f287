-- `line::read_line` meets its contract: the body says which kind of line it is.
-- Assumes nothing.
use native.Mathlib.Omega.{arith}
use mathlib.Core.Path.{◌∙◌}
use Rattle.line.proofs.Lines.{says_blank, says_range, says_category}
use Rattle.line.proofs.Steps.{begins_part}
use Rattle.line.proofs.read_line.Goals as goal

pub returns-then-body : goal.returns-then-body
returns-then-body c = says_blank c.body_of-body.ensures (omega arith)

pub returns-then-starts_with : goal.returns-then-starts_with
returns-then-starts_with c =
    let body = c.body_of-body.result in
    says_range c.body_of-body.ensures (omega arith)
    (c.starts_with.ensures.value ∙ begins_part c.args.text.now body.start body.end)
    c.if-starts_with.true c.parse_range.ensures

pub returns : goal.returns
returns c =
    let body = c.body_of-body.result in
    says_category c.body_of-body.ensures (omega arith)
    (c.starts_with.ensures.value ∙ begins_part c.args.text.now body.start body.end)
    c.if-starts_with.false c.parse_category.ensures
