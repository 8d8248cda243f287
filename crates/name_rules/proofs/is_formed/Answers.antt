-- `name_rules::is_formed` meets its contract. Assumes nothing.
use Rattle.name_rules.proofs.Formed.{whole_prefix}
use Rattle.name_rules.proofs.is_formed.Goals as goal

pub returns : goal.returns
returns c = whole_prefix _ _ c.valid_prefix.ensures
