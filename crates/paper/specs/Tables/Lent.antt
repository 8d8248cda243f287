-- Lent bytes: what a total reader answers at any place, what a total writer leaves, and zero bytes up to a size ("leaves lent
-- memory unchanged, except .. zero up to the stated sizes; memory past the sizes is untouched").
-- Assumes nothing.
use Rattle.std.specs.Prelude.{ℕ, ◌+◌, ◌-◌, cond, List, ◌++◌, leb, length, take, drop, replicate}
use Rattle.paper.specs.Numbers.Bytes.{value}

-- the number of w bytes at a place
unfoldable pub num : ℕ → ℕ → List ℕ → ℕ
num w at l = value (take w (drop at l))

-- what a reader of w bytes answers at any place, and what a writer leaves: past the end 0, and nothing changed
unfoldable pub got : ℕ → ℕ → List ℕ → ℕ
unfolding num
got w at l = cond (leb (at + w) (length l)) (num w at l) 0

unfoldable pub patch : ℕ → List ℕ → List ℕ → List ℕ
patch at p l = cond (leb (at + length p) (length l)) (take at l ++ p ++ drop (at + length p) l) l

-- l with its first n bytes 0
unfoldable pub zeroed : ℕ → List ℕ → List ℕ
zeroed n l = cond (leb n (length l)) (replicate n 0 ++ drop n l) l

-- l and zero bytes up to n
unfoldable pub padded : ℕ → List ℕ → List ℕ
padded n l = l ++ replicate (n - length l) 0
