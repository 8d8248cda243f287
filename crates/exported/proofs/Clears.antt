-- Which numbers clear the room, by the six comparisons that decide it.
-- Assumes nothing.
use Prim.Native.Nat.{ℕ, ◌≤◌, ◌<◌}
use native.Mathlib.Omega.{arith}
use mathlib.Core.Path.{◌≡◌, refl}
use mathlib.Core.Bool.{true, false}
use borrow.Author.Tests.{le-leb, lt-leb}
use Rattle.paper.specs.Refusals.{range_parts, name_bytes_full, pack_version, pack_left_over, unk_fields, unk_entries_full}
use Rattle.paper.specs.Tables.Reader.{clears}

pub below_4 : (n : ℕ) → n < range_parts → false ≡ clears n
unfolding clears
below_4 n h = rw (lt-leb range_parts n h, lt-leb pack_version n (omega arith), lt-leb unk_fields n (omega arith)) refl

pub from_4 : (n : ℕ) → range_parts ≤ n → n ≤ name_bytes_full → true ≡ clears n
unfolding clears
from_4 n h k = rw (le-leb range_parts n h, le-leb n name_bytes_full k) refl

pub below_18 : (n : ℕ) → name_bytes_full < n → n < pack_version → false ≡ clears n
unfolding clears
below_18 n h k = rw (lt-leb n name_bytes_full h, le-leb range_parts n (omega arith), lt-leb pack_version n k, lt-leb unk_fields n (omega arith)) refl

pub from_18 : (n : ℕ) → pack_version ≤ n → n ≤ pack_left_over → true ≡ clears n
unfolding clears
from_18 n h k = rw (lt-leb n name_bytes_full (omega arith), le-leb range_parts n (omega arith), le-leb pack_version n h, le-leb n pack_left_over k) refl

pub below_23 : (n : ℕ) → pack_left_over < n → n < unk_fields → false ≡ clears n
unfolding clears
below_23 n h k =
    rw (lt-leb n name_bytes_full (omega arith), le-leb range_parts n (omega arith), le-leb pack_version n (omega arith), lt-leb n pack_left_over h, lt-leb unk_fields n k) refl

module _ (n : ℕ) (h : unk_fields ≤ n) where
  pub from_23 : n ≤ unk_entries_full → true ≡ clears n
  unfolding clears
  from_23 k =
      rw (
        lt-leb n name_bytes_full (omega arith),
        le-leb range_parts n (omega arith),
        le-leb pack_version n (omega arith),
        lt-leb n pack_left_over (omega arith),
        le-leb unk_fields n h,
        le-leb n unk_entries_full k,
      ) refl

  pub above_25 : unk_entries_full < n → false ≡ clears n
  unfolding clears
  above_25 k =
      rw (
        lt-leb n name_bytes_full (omega arith),
        le-leb range_parts n (omega arith),
        le-leb pack_version n (omega arith),
        lt-leb n pack_left_over (omega arith),
        le-leb unk_fields n h,
        lt-leb n unk_entries_full k,
      ) refl
