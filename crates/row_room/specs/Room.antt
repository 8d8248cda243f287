-- Room for rows in four slices: places for each boundary, start and length, and for the pool.
-- Assumes nothing.
use Rattle.std.specs.Prelude.{ℕ, ◌≤◌, Bool, true, false}

pub record Room (rows places b s l p : ℕ) : Type 0 where
  pub in_boundaries : rows ≤ b
  pub in_starts : rows ≤ s
  pub in_lengths : rows ≤ l
  pub in_pool : places ≤ p

abbrev pub RoomIs : ℕ → ℕ → ℕ → ℕ → ℕ → ℕ → Bool → Type 0
RoomIs rows places b s l p true = Room rows places b s l p
RoomIs rows places b s l p false = Room rows places b s l p → ⊥
