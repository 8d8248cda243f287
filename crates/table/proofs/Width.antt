-- Straight code that reads a byte at `at`, `at + 1`, .. up to a width, over the width: what it reads is `got`, what it leaves
-- is `patch`. The bytes stand in a list, and each function cites the law at a list of its width.
-- Assumes nothing.
use Prim.Native.Nat.{ℕ, zero, suc, ◌+◌, ◌*◌, ◌≤◌}
use native.Mathlib.Omega.{arith}
use mathlib.Core.Path.{◌≡◌, refl, sym, ap, ◌∙◌}
use mathlib.Core.List.{List, [], ◌∷◌}
use lib.ListN.{length, get_or, set}
use lib.Seq.{sets}
use Rattle.paper.specs.Numbers.Bytes.{value}
use Rattle.paper.specs.Tables.Lent.{num, got, patch}
use Rattle.paper.proofs.Tables.Laws.{got_in, num_none, num_more, patch_in}

-- k places on, as the code writes it: at, at + 1, at + 2
abbrev pub on : ℕ → ℕ → ℕ
on at zero = at
on at (suc k) = at + suc k

on_is : (at k : ℕ) → on at k ≡ at + k
on_is at zero = omega arith
on_is at (suc k) = refl

-- these bytes stand in l from k places on
abbrev pub Stand : ℕ → ℕ → List ℕ → List ℕ → Type 0
Stand at k [] l = Unit {0}
Stand at k (b ∷ bs) l = (b ≡ get_or l (on at k) 0) × Stand at (suc k) bs l

standing : (at k : ℕ) (bs l : List ℕ) → at + k + length bs ≤ length l → Stand at k bs l → value bs ≡ num (length bs) (at + k) l
standing at k [] l h s = sym (num_none (at + k) l)
standing at k (b ∷ bs) l h s =
    let e : at + suc k ≡ at + k + 1 = omega arith in
    let f : b ≡ get_or l (at + k) 0 = s.0 ∙ ap (λ m. get_or l m 0) (on_is at k) in
    let x : value bs ≡ num (length bs) (at + k + 1) l = standing at (suc k) bs l (omega arith) s.1 ∙ ap (λ m. num (length bs) m l) e in
    let y : num (suc (length bs)) (at + k) l ≡ get_or l (at + k) 0 + 256 * num (length bs) (at + k + 1) l = num_more (length bs) (at + k) l (omega arith) in
    omega arith

pub read : (at v : ℕ) (bs l : List ℕ) → at + length bs ≤ length l → Stand at 0 bs l → v ≡ value bs → v ≡ got (length bs) at l
read at v bs l h s d =
    let e : at + 0 ≡ at = omega arith in
    d ∙ standing at 0 bs l (omega arith) s ∙ ap (λ m. num (length bs) m l) e ∙ sym (got_in (length bs) at l h)

-- l after these bytes were stored from k places on, one by one
abbrev pub stored : ℕ → ℕ → List ℕ → List ℕ → List ℕ
stored at k [] l = l
stored at k (b ∷ bs) l = stored at (suc k) bs (set l (on at k) b)

as_sets : (at k : ℕ) (bs l : List ℕ) → stored at k bs l ≡ sets l (on at k) bs
as_sets at k [] l = refl
as_sets at k (b ∷ bs) l =
    let e : at + suc k ≡ suc (at + k) = omega arith in
    as_sets at (suc k) bs (set l (on at k) b) ∙ ap (λ m. sets (set l (on at k) b) m bs) (e ∙ sym (ap suc (on_is at k)))

pub written : (at : ℕ) (bs l : List ℕ) → at + length bs ≤ length l → stored at 0 bs l ≡ patch at bs l
written at bs l h = as_sets at 0 bs l ∙ patch_in at bs l h
