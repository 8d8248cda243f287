-- A table cut into arrays by the library, as far as its count says: the paper's entries.
-- Assumes nothing.
use Prim.Native.Nat.{ℕ, zero, suc, ◌+◌, ◌*◌, ◌/◌, ◌≤◌}
use native.Mathlib.Nat.{mul-suc}
use native.Mathlib.Omega.{arith}
use mathlib.Core.Path.{◌≡◌, refl, ap, ap₂, ◌∙◌}
use mathlib.Core.Bool.{Bool, ◌&&◌}
use mathlib.Core.List.{List, [], ◌∷◌}
use lib.ListN.{length, take, drop}
use lib.Seq.{take-take}
use Rattle.std.specs.List.{list_all}
use Rattle.std.specs.Simd.{first_chunks}
use Rattle.paper.specs.Lists.{all}
use Rattle.paper.specs.Tables.Layout.{pieces}
use Rattle.paper.proofs.Tables.Laws.{drop_take}

pub all_is : {A : Type 0} (p : A → Bool) (xs : List A) → list_all p xs ≡ all p xs
all_is p [] = refl
all_is p (x ∷ xs) = ap (λ b. p x && b) (all_is p xs)

chunks_are : (w n : ℕ) (l : List ℕ) → first_chunks w n (take (w * n) l) ≡ pieces w n l
unfolding pieces
chunks_are w zero l = refl
chunks_are w (suc n) l =
    let e : w * suc n ≡ w + w * n = mul-suc w n ∙ omega arith in
    ap₂ (λ (p : List ℕ) ps. p ∷ ps)
    (ap (λ k. take w (take k l)) e ∙ take-take w (w + w * n) l (omega arith))
    (ap (λ k. first_chunks w n (drop w (take k l))) e ∙ ap (first_chunks w n) (drop_take w (w * n) l) ∙ chunks_are w n (drop w l))

pub entries_are : (w n : ℕ) (l : List ℕ) → w * n ≤ length l → length (take (w * n) l) / w ≡ n
    → first_chunks w (length (take (w * n) l) / w) (take (w * n) l) ≡ pieces w n l
entries_are w n l h e = ap (λ k. first_chunks w k (take (w * n) l)) e ∙ chunks_are w n l
