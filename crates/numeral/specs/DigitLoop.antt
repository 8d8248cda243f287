-- The digit loop as a program runs it, stopping at what is no digit and where the value passes the limit; and digits taken whole,
-- as the paper's `spelled_by` takes them. `Digits.loop_says` proves that the two are one.
-- Assumes nothing.
use Rattle.std.specs.Prelude.{ℕ, ◌+◌, ◌*◌, cond, ◌&&◌, List, [], ◌∷◌, leb}
use Rattle.std.proofs.Math.Option.{Option, none, some}
use Rattle.paper.specs.Lists.{all}
use Rattle.paper.specs.Numbers.Numeral.{digit_of, is_digit, value_after}

-- digit by digit, after the value `high`
unfoldable pub digit_loop : ℕ → ℕ → ℕ → List ℕ → Option ℕ
unfolding is_digit
digit_loop base limit high [] = some high
digit_loop base limit high (d ∷ ds) =
    let r = digit_loop base limit (high * base + digit_of d) ds in
    cond (is_digit base d && leb (high * base + digit_of d) limit) r none

-- all at once, after the value `high`
unfoldable pub digits_after : ℕ → ℕ → ℕ → List ℕ → Option ℕ
unfolding is_digit value_after
digits_after base limit high ds =
    let n = value_after base high ds in
    cond (all (is_digit base) ds && leb n limit) (some n) none
