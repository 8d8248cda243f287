-- `parse_number`: a `+` in front is passed over once, and digits are read.
-- Assumes nothing.
use Rattle.std.proofs.Common.{ℕ, List, refl, ap, ◌∙◌}
use denote.Ref.{Bor}
use Rattle.paper.specs.Computed.Numeral.{spelled_by}
use Rattle.numeral.proofs.Digits.{plus_taken}
use Rattle.numeral.proofs.parse_number.Goals as goal

pub returns : goal.returns
returns c =
    let a = c.args in
    c.parse_digits.ensures ∙ ap (λ (x : Bor (List ℕ)). spelled_by a.base a.limit x.now) c.unwrap_or.ensures
    ∙ plus_taken a.base a.limit a.number.now a.number refl c.strip_prefix.result c.strip_prefix.ensures.cases
