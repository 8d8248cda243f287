-- `name_rules::name_at` meets its contract. Assumes nothing.
use native.Mathlib.Omega.{arith}
use mathlib.Core.Path.{refl, ap, ◌∙◌}
use Rattle.name_rules.proofs.Placed.{name_found}
use Rattle.name_rules.proofs.name_at.Goals as goal

pub returns : goal.returns
returns c =
    ap (λ b. b.now) c.unwrap_or.ensures
    ∙ name_found _ _ _ c.from-start.result c.from-len.result c.requires (omega arith) (omega arith) c.get.result _ refl c.get.ensures.lookup.0
