-- Fields joined by NUL are the part with NUL for each comma, so they are as long as it. Assumes nothing.
use Prim.Native.Nat.{ℕ}
use mathlib.Core.Path.{◌≡◌, refl, ap, ◌∙◌}
use mathlib.Core.Bool.{Bool, true, false, not, cond}
use mathlib.Core.List.{List, [], ◌∷◌, map}
use lib.Dec.{T}
use lib.ListN.{length, length-map}
use Rattle.paper.specs.Lists.{empty, cut, push, is, join_with}
use Rattle.paper.specs.Text.Scalar.{comma}
use Rattle.paper.specs.Unk.Entry.{nul}
use Rattle.unk_line.specs.Line.{joined_fields, as_joined}

push_some : (x : ℕ) (ls : List (List ℕ)) → T (not (empty (push x ls)))
push_some x [] = tt
push_some x (l ∷ ls) = tt

pub cut_some : (p : ℕ → Bool) (l : List ℕ) → T (not (empty (cut p l)))
cut_some p [] = tt
cut_some p (x ∷ l) = go (p x)
  where
    go : (b : Bool) → T (not (empty (cond b ([] ∷ cut p l) (push x (cut p l)))))
    go true = tt
    go false = push_some x (cut p l)

join_opened : (s : ℕ) (ls : List (List ℕ)) → T (not (empty ls)) → join_with s ([] ∷ ls) ≡ s ∷ join_with s ls
join_opened s [] n = absurd n
join_opened s (l ∷ ls) n = refl

join_pushed : (s x : ℕ) (ls : List (List ℕ)) → T (not (empty ls)) → join_with s (push x ls) ≡ x ∷ join_with s ls
join_pushed s x [] n = absurd n
join_pushed s x (l ∷ []) n = refl
join_pushed s x (l ∷ m ∷ ls) n = refl

pub joined_map : (l : List ℕ) → joined_fields l ≡ map as_joined l
joined_map [] = refl
joined_map (x ∷ l) = go (is comma x) (joined_map l)
  where
    go : (b : Bool) → joined_fields l ≡ map as_joined l → join_with nul (cond b ([] ∷ cut (is comma) l) (push x (cut (is comma) l))) ≡ cond b nul x ∷ map as_joined l
    go true ih = join_opened nul (cut (is comma) l) (cut_some (is comma) l) ∙ ap (λ r. nul ∷ r) ih
    go false ih = join_pushed nul x (cut (is comma) l) (cut_some (is comma) l) ∙ ap (λ r. x ∷ r) ih

pub joined_long : (l : List ℕ) → length (joined_fields l) ≡ length l
joined_long l = ap length (joined_map l) ∙ length-map l as_joined
