-- Numerals, computed: the number that characters spell, or that they spell none. `Numbers.Laws` proves these the relations of
-- Numbers/Numeral.
-- Assumes nothing.
use Rattle.std.specs.Prelude.{ℕ, cond, ◌&&◌, List, [], ◌∷◌, leb, eqb}
use Rattle.std.proofs.Math.Option.{Option, none, some}
use Rattle.paper.specs.Lists.{full}
use Rattle.paper.specs.Text.Scalar.{plus_sign, minus_sign}
use Rattle.paper.specs.Numbers.Numeral.{is_digit, value_after, Integer, pos, neg}

abbrev pub drop_plus : List ℕ → List ℕ
drop_plus [] = []
drop_plus (c ∷ cs) = cond (eqb c plus_sign) cs (c ∷ cs)

unfoldable pub spelled_by : ℕ → ℕ → List ℕ → Option ℕ
unfolding is_digit value_after
spelled_by base limit ds =
    let n = value_after base 0 ds in
    cond (full (is_digit base) ds && leb n limit) (some n) none

unfoldable pub numeral : ℕ → ℕ → List ℕ → Option ℕ
unfolding spelled_by
numeral base limit cs = spelled_by base limit (drop_plus cs)

abbrev pub as_pos : Option ℕ → Option Integer
as_pos none = none
as_pos (some n) = some (pos n)

abbrev pub as_neg : Option ℕ → Option Integer
as_neg none = none
as_neg (some n) = some (neg n)

unfoldable pub signed_numeral : ℕ → ℕ → ℕ → List ℕ → Option Integer
unfolding spelled_by numeral
signed_numeral base top low [] = none
signed_numeral base top low (c ∷ cs) = cond (eqb c minus_sign) (as_neg (spelled_by base low cs)) (as_pos (numeral base top (c ∷ cs)))
