-- The mark is a fold whose steps wrap at 32 bits. Assumes nothing.
use Prim.Native.Nat.{ℕ, ◌+◌, ◌*◌, ◌%◌}
use native.Mathlib.Omega.{arith}
use mathlib.Core.Path.{◌≡◌, refl, ap, ◌∙◌}
use mathlib.Core.List.{List, [], ◌∷◌}
use Rattle.std.specs.List.{fold}
use Rattle.mark.specs.Mark.{marks, factor, mark_after, mark}

-- one byte more, the product cut first
abbrev pub step : ℕ → ℕ → ℕ
step h b = (h * factor % marks + b) % marks

folded : (h : ℕ) (l : List ℕ) → fold step h l ≡ mark_after h l
unfolding mark_after
folded h [] = refl
folded h (b ∷ l) =
    let e : step h b ≡ (h * factor + b) % marks = omega arith in
    ap (λ k. fold step k l) e ∙ folded ((h * factor + b) % marks) l

pub mark_is : (l : List ℕ) → fold step 0 l ≡ mark l
unfolding mark
mark_is l = folded 0 l
