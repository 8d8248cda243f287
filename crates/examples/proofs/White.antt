-- White_Space and the separators of a category line, of every number up to 3001 hex.
-- Assumes nothing.
use mathlib.Core.Path.{◌≡◌, refl}
use mathlib.Core.List.{[], ◌∷◌}
use Rattle.paper.specs.Lists.{select}
use Rattle.paper.specs.Text.Scalar.{is_white, is_sep}
use Rattle.paper.specs.Rows.Flat.{counting}
use Rattle.paper.proofs.Examples.White.{unicode_white}

-- with `white_low` of the paper the list decides at every number
pub white_listed : select is_white (counting 0 0x3002) ≡ unicode_white
unfolding is_white
white_listed = refl

pub separators_listed : select is_sep (counting 0 0x3002) ≡ 0x09 ∷ 0x0C ∷ 0x0D ∷ 0x20 ∷ []
unfolding is_sep
separators_listed = refl
