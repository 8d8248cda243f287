-- Bytes copied one by one stand in the room as one patch: what is left to set, set behind what was set, gives the whole.
-- Assumes nothing.
use Prim.Native.Nat.{ℕ, zero, suc, ◌+◌, ◌*◌, ◌-◌, ◌≤◌, ◌<◌}
use native.Mathlib.Omega.{arith}
use mathlib.Core.Path.{◌≡◌, refl, sym, ap, ap₂, ◌∙◌}
use mathlib.Core.List.{List}
use lib.ListN.{length, set, length-set}
use lib.Seq.{sets}
use Rattle.paper.specs.Pack.Fields.{byte_width}
use Rattle.paper.specs.Tables.Lent.{patch}
use Rattle.paper.proofs.Tables.Laws.{patch_in}
use Rattle.field.specs.Bits.{bits_value, bytes_at}

pub bytes_size : (p : List ℕ) (at n : ℕ) → length (bytes_at p at n) ≡ n
unfolding bytes_at
bytes_size p at zero = refl
bytes_size p at (suc n) = ap suc (bytes_size p (at + 8) n)

pub record Copying (p : List ℕ) (at n to : ℕ) (l₀ l : List ℕ) (i : ℕ) : Type 0 where
  pub upto : i ≤ n
  pub long : length l ≡ length l₀
  pub left : sets l (to + i) (bytes_at p (at + byte_width * i) (n - i)) ≡ sets l₀ to (bytes_at p at n)

pub one_copied : (p : List ℕ) (at n to : ℕ) (l₀ l : List ℕ) (i v : ℕ) → Copying p at n to l₀ l i → i < n → v ≡ bits_value p (at + byte_width * i) byte_width
    → Copying p at n to l₀ (set l (to + i) v) (i + 1)
unfolding bytes_at
one_copied p at n to l₀ l i v z lt e =
    let k : n - i ≡ suc (n - (i + 1)) = omega arith in
    let a : to + (i + 1) ≡ suc (to + i) = omega arith in
    let b : at + 8 * (i + 1) ≡ at + 8 * i + 8 = omega arith in
    record {
      upto = omega arith;
      long = length-set l (to + i) v ∙ z.long;
      left = ap₂ (λ x y. sets (set l (to + i) v) x (bytes_at p y (n - (i + 1)))) a b
          ∙ ap (λ x. sets (set l (to + i) x) (suc (to + i)) (bytes_at p (at + 8 * i + 8) (n - (i + 1)))) e
          ∙ ap (λ m. sets l (to + i) (bytes_at p (at + 8 * i) m)) (sym k)
          ∙ z.left;
    }

pub all_copied : (p : List ℕ) (at n to : ℕ) (l₀ l : List ℕ) (i : ℕ) → Copying p at n to l₀ l i → n ≤ i → to + n ≤ length l₀
    → l ≡ patch to (bytes_at p at n) l₀
unfolding bytes_at
all_copied p at n to l₀ l i z h r =
    let k : n - i ≡ 0 = omega arith in
    let s = bytes_size p at n in
    ap (λ m. sets l (to + i) (bytes_at p (at + 8 * i) m)) (sym k) ∙ z.left ∙ patch_in to (bytes_at p at n) l₀ (omega arith)
