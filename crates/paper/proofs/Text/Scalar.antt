-- A scalar value is 0 to D7FF or E000 to 10FFFF: no surrogate is one, and nothing past 10FFFF.
-- Assumes nothing.
use Prim.Native.Nat.{ℕ, ◌≤◌, ◌<◌, ◌+◌, ◌-◌}
use native.Mathlib.Omega.{arith}
use mathlib.Core.Logic.{◌⊎◌, inl, inr}
use mathlib.Core.Bool.{not}
use lib.Dec.{T, leb}
use mir.Facts.{and_yes, yes_and, or_yes, not_T, leb_yes, yes_leb}
use Rattle.paper.specs.Text.Scalar.{between, is_scalar, first_surrogate, last_surrogate, last_scalar}
use Rattle.paper.proofs.Lists.Facts.{or_left, or_right}

pub yes_between : (lo hi a : ℕ) → lo ≤ a → a ≤ hi → T (between lo hi a)
yes_between lo hi a h k = yes_and (leb lo a) (leb a hi) (yes_leb h) (yes_leb k)

pub scalar_cases : (c : ℕ) → T (is_scalar c) → (c ≤ first_surrogate - 1) ⊎ ((last_surrogate + 1 ≤ c) × (c ≤ last_scalar))
unfolding is_scalar
scalar_cases c t = go (or_yes (between 0 (first_surrogate - 1) c) (between (last_surrogate + 1) last_scalar c) t)
  where
    go : T (between 0 (first_surrogate - 1) c) ⊎ T (between (last_surrogate + 1) last_scalar c) → (c ≤ first_surrogate - 1) ⊎ ((last_surrogate + 1 ≤ c) × (c ≤ last_scalar))
    go (inl a) = inl (leb_yes (and_yes (leb 0 c) (leb c (first_surrogate - 1)) a).1)
    go (inr a) = let h = and_yes (leb (last_surrogate + 1) c) (leb c last_scalar) a in inr (leb_yes h.0, leb_yes h.1)

pub scalar_top : (c : ℕ) → T (is_scalar c) → c ≤ last_scalar
scalar_top c t = go (scalar_cases c t)
  where
    go : (c ≤ first_surrogate - 1) ⊎ ((last_surrogate + 1 ≤ c) × (c ≤ last_scalar)) → c ≤ last_scalar
    go (inl a) = omega arith
    go (inr a) = a.1

pub scalar_low : (c : ℕ) → c ≤ first_surrogate - 1 → T (is_scalar c)
unfolding is_scalar
scalar_low c h = or_left (between 0 (first_surrogate - 1) c) (between (last_surrogate + 1) last_scalar c) (yes_between 0 (first_surrogate - 1) c (omega arith) h)

pub scalar_high : (c : ℕ) → last_surrogate + 1 ≤ c → c ≤ last_scalar → T (is_scalar c)
unfolding is_scalar
scalar_high c l h = or_right (between 0 (first_surrogate - 1) c) (between (last_surrogate + 1) last_scalar c) (yes_between (last_surrogate + 1) last_scalar c l h)

pub surrogate : (c : ℕ) → first_surrogate ≤ c → c ≤ last_surrogate → T (not (is_scalar c))
surrogate c l h = not_T (is_scalar c) (λ t. go (scalar_cases c t))
  where
    go : (c ≤ first_surrogate - 1) ⊎ ((last_surrogate + 1 ≤ c) × (c ≤ last_scalar)) → ⊥
    go (inl a) = omega arith
    go (inr (a, b)) = omega arith

pub beyond : (c : ℕ) → last_scalar < c → T (not (is_scalar c))
beyond c h = not_T (is_scalar c) (λ t. never (scalar_top c t))
  where
    never : c ≤ last_scalar → ⊥
    never k = omega arith
