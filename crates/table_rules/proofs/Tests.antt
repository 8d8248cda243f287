-- What the answer of a test that was called says of the definition that it promises.
-- Assumes nothing.
use mathlib.Core.Path.{◌≡◌, sym, ◌∙◌}
use mathlib.Core.Bool.{Bool, true, false, not, false≢true}
use borrow.Author.Tests.{not-true, not-false}
use lib.Dec.{T}
use mir.Facts.{not_T}
use Rattle.paper.proofs.Lists.Facts.{T→true, T→false, true→T}

pub untrue : (b : Bool) → (T b → ⊥) → b ≡ false
untrue b f = T→false b (not_T b f)

pub refused : (b : Bool) → (T b → ⊥) → false ≡ b
refused b f = sym (untrue b f)

pub passed : (r b : Bool) → r ≡ b → not r ≡ false → T b
passed r b e h = true→T b (sym e ∙ not-false r h)

pub clash : (r b : Bool) → r ≡ b → not r ≡ true → T b → ⊥
clash r b e h t = false≢true (sym (not-true r h) ∙ e ∙ T→true b t)
