-- `text::is_white_space` meets its contract: each arm names characters that are White_Space, and where the answer is false no run is left.
-- Assumes nothing.
use Prim.Native.Nat.{ℕ}
use native.Mathlib.Omega.{arith}
use borrow.Author.Rules.{rules}
use mathlib.Core.Path.{◌≡◌, sym, ap}
use mathlib.Core.Logic.{◌⊎◌, inl, inr}
use mathlib.Core.Bool.{true, false}
use Rattle.paper.specs.Text.Scalar.{In, is_white}
use Rattle.text.proofs.White.{run, no_white}
use Rattle.text.proofs.is_white_space.Goals as goal

-- what the `match` tests number by number
abbrev Single : ℕ → Type 0
Single c = (c ≡ 0x20) ⊎ ((c ≡ 0x85) ⊎ ((c ≡ 0xA0) ⊎ ((c ≡ 0x1680) ⊎ ((c ≡ 0x202F) ⊎ ((c ≡ 0x205F) ⊎ (c ≡ 0x3000))))))

single : {c : ℕ} → Single c → is_white c ≡ true
unfolding is_white
single (inl e) = ap is_white e
single (inr (inl e)) = ap is_white e
single (inr (inr (inl e))) = ap is_white e
single (inr (inr (inr (inl e)))) = ap is_white e
single (inr (inr (inr (inr (inl e))))) = ap is_white e
single (inr (inr (inr (inr (inr (inl e)))))) = ap is_white e
single (inr (inr (inr (inr (inr (inr e)))))) = ap is_white e

-- and run by run
controls : {c : ℕ} → In 0x9 0xD c → is_white c ≡ true
unfolding is_white
controls i = run 0x9 5 tt i.from (omega arith)

quads : {c : ℕ} → In 0x2000 0x200A c → is_white c ≡ true
unfolding is_white
quads i = run 0x2000 11 tt i.from (omega arith)

separators : {c : ℕ} → In 0x2028 0x2029 c → is_white c ≡ true
unfolding is_white
separators i = run 0x2028 2 tt i.from (omega arith)

not_white : (c : ℕ) → (Single c → ⊥) → (In 0x9 0xD c → ⊥) → (In 0x2000 0x200A c → ⊥) → (In 0x2028 0x2029 c → ⊥) → is_white c ≡ false
not_white c k r s t =
    no_white c (r, ((λ i. k (inl (omega arith))), ((λ i. k (inr (inl (omega arith)))), ((λ i. k (inr (inr (inl (omega arith))))), ((λ i. k (inr (inr (inr (inl (omega arith)))))), (s, ((λ i. t (omega arith)), ((λ i. t (omega arith)), ((λ i. k (inr (inr (inr (inr (inl (omega arith))))))), ((λ i. k (inr (inr (inr (inr (inr (inl (omega arith)))))))), ((λ i. k (inr (inr (inr (inr (inr (inr (omega arith)))))))), tt)))))))))))

pub returns-in_default : goal.returns-in_default
returns-in_default c = sym (not_white c.args.c (λ k. omega arith) (λ i. omega arith) (λ i. omega arith) (λ i. omega arith))

pub returns-in_default-2 : goal.returns-in_default-2
returns-in_default-2 c = sym (not_white c.args.c (λ k. omega arith) (λ i. omega arith) (λ i. omega arith) (λ i. omega arith))

pub returns-in_default-3 : goal.returns-in_default-3
returns-in_default-3 c = sym (not_white c.args.c (λ k. omega arith) (λ i. omega arith) (λ i. omega arith) (λ i. omega arith))

pub returns-in_default-4 : goal.returns-in_default-4
returns-in_default-4 c = sym (not_white c.args.c (λ k. omega arith) (λ i. omega arith) (λ i. omega arith) (λ i. omega arith))

pub returns-in-9-to-13 : goal.returns-in-9-to-13
returns-in-9-to-13 c = sym (single (search rules))

pub returns-in-9-to-13-2 : goal.returns-in-9-to-13-2
returns-in-9-to-13-2 c = sym (controls (omega arith))

pub returns-in-9-to-13-3 : goal.returns-in-9-to-13-3
returns-in-9-to-13-3 c = sym (quads (omega arith))

pub returns-in-9-to-13-4 : goal.returns-in-9-to-13-4
returns-in-9-to-13-4 c = sym (separators (omega arith))
