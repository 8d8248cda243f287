-- A part is lent and comes back as long as it was: so the whole is as long as it was.
-- Assumes nothing.
use Prim.Native.Nat.{ℕ, ◌+◌}
use mathlib.Core.Path.{◌≡◌, sym, ap, ◌∙◌}
use mathlib.Core.List.{List, ◌++◌}
use lib.ListN.{length, take, drop, length-append, take-append-drop}

pub part_kept : (n : ℕ) (l part : List ℕ) → length part ≡ length (take n l) → length (part ++ drop n l) ≡ length l
part_kept n l part e =
    length-append part (drop n l) ∙ ap (λ k. k + length (drop n l)) e ∙ sym (length-append (take n l) (drop n l)) ∙ ap length (take-append-drop n l)
