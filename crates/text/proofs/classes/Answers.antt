-- `text::classes` meets its contract: the rule of the table is a test at each of its 256 entries, which antt computes.
-- Assumes nothing.
use Prim.Native.Nat.{ℕ}
use mathlib.Core.Bool.{Bool}
use mathlib.Core.List.{List}
use lib.Dec.{T, eqb, eqb→eq}
use lib.ListN.{get_or}
use Rattle.paper.proofs.Lists.Facts.{below, from_below}
use Rattle.text.specs.Classes.{class_of, ByClass}
use Rattle.text.proofs.classes.Goals as goal

right : List ℕ → ℕ → Bool
right table b = eqb (get_or table b 0) (class_of b)

by_class : (table : List ℕ) → T (below (right table) 256) → ByClass table
unfolding right
by_class table t = record { entry = λ b h. eqb→eq (get_or table b 0) (class_of b) (from_below (right table) 256 t b h) }

pub returns : goal.returns
unfolding right class_of
returns c = by_class _ tt
