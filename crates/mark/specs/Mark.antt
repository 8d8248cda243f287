-- A name's mark: a number made of its bytes, of which nobody must know more than that it is a function of them. Two names are compared
-- only where their marks agree.
-- Assumes nothing.
use Rattle.std.specs.Prelude.{ℕ, ◌+◌, ◌*◌, ◌%◌, List, [], ◌∷◌}

-- marks are numbers of 32 bits; the factor is that of Fowler, Noll and Vo
abbrev pub marks : ℕ
marks = 4294967296

abbrev pub factor : ℕ
factor = 16777619

-- the mark of bytes behind others of the mark h
unfoldable pub mark_after : ℕ → List ℕ → ℕ
mark_after h [] = h
mark_after h (b ∷ bs) = mark_after ((h * factor + b) % marks) bs

unfoldable pub mark : List ℕ → ℕ
unfolding mark_after
mark bs = mark_after 0 bs
