-- The entries of tables as the writer's loops meet them: one more entry, and what the code reads of it.
-- Assumes nothing.
use Prim.Native.Nat.{ℕ, zero, suc, ◌+◌, ◌*◌, ◌-◌, ◌≤◌}
use native.Mathlib.Nat.{mul-suc, mul-zero, zero-add, suc-add}
use native.Mathlib.Omega.{arith}
use mathlib.Core.Path.{◌≡◌, sym, ap, ap₂, ◌∙◌}
use mathlib.Core.List.{List, [], ◌∷◌, ◌++◌, map}
use lib.ListN.{length, take, drop}
use lib.Seq.{drop-drop}
use Rattle.paper.specs.Lists.{sum}
use Rattle.paper.specs.Pack.Fields.{field}
use Rattle.paper.specs.Tables.Layout.{reference_size, pieces}
use Rattle.paper.specs.Tables.Lent.{num, got}
use Rattle.paper.proofs.Lists.Facts.{map_append, sum_append}
use Rattle.table_rules.proofs.Turn.{entry}
use Rattle.table_rules.proofs.Entries.{first_got}
use Rattle.put_field.proofs.Bytes.{field_more}
use Rattle.put_ranges.specs.Ranges.{numbers_from}

-- ---- one more entry

pub pieces_add : (w m n : ℕ) (l : List ℕ) → pieces w (m + n) l ≡ pieces w m l ++ pieces w n (drop (w * m) l)
unfolding pieces
pieces_add w zero n l = ap₂ (λ a b. pieces w a (drop b l)) (zero-add n) (sym (mul-zero w))
pieces_add w (suc m) n l =
    let e : w + w * m ≡ w * suc m = sym (mul-suc w m ∙ omega arith) in
    ap (λ k. pieces w k l) (suc-add m n)
    ∙ ap (λ ls. take w l ∷ ls) (pieces_add w m n (drop w l))
    ∙ ap (λ k. take w l ∷ (pieces w m (drop w l) ++ pieces w n k)) (drop-drop (w * m) w l ∙ ap (λ k. drop k l) e)

pub pieces_more : (w i : ℕ) (l : List ℕ) → pieces w (i + 1) l ≡ pieces w i l ++ (entry w i l ∷ [])
unfolding pieces
pieces_more w i l = pieces_add w i 1 l

-- ---- a number in each entry

module _ {A : Type 0} (f : A → ℕ) (g : List ℕ → A) (w : ℕ) (l : List ℕ) where
  pub amounts_more : (i : ℕ) → map f (map g (pieces w (i + 1) l)) ≡ map f (map g (pieces w i l)) ++ (f (g (entry w i l)) ∷ [])
  amounts_more i =
      ap (λ ps. map f (map g ps)) (pieces_more w i l)
      ∙ ap (map f) (map_append g (pieces w i l) (entry w i l ∷ []))
      ∙ map_append f (map g (pieces w i l)) (g (entry w i l) ∷ [])

  pub amounts_sum : (i : ℕ) → sum (map f (map g (pieces w (i + 1) l))) ≡ sum (map f (map g (pieces w i l))) + f (g (entry w i l))
  amounts_sum i =
      ap sum (amounts_more i) ∙ sum_append (map f (map g (pieces w i l))) (f (g (entry w i l)) ∷ []) ∙ omega arith

  -- those so far are no more than all
  pub amounts_below : (i n : ℕ) → i ≤ n → sum (map f (map g (pieces w i l))) ≤ sum (map f (map g (pieces w n l)))
  amounts_below i n h =
      let e : n ≡ i + (n - i) = omega arith in
      let a : sum (map f (map g (pieces w n l))) ≡ sum (map f (map g (pieces w i l))) + sum (map f (map g (pieces w (n - i) (drop (w * i) l)))) =
      ap (λ k. sum (map f (map g (pieces w k l)))) e
      ∙ ap (λ ps. sum (map f (map g ps))) (pieces_add w i (n - i) l)
      ∙ ap (λ xs. sum (map f xs)) (map_append g (pieces w i l) (pieces w (n - i) (drop (w * i) l)))
      ∙ ap sum (map_append f (map g (pieces w i l)) (map g (pieces w (n - i) (drop (w * i) l))))
      ∙ sum_append (map f (map g (pieces w i l))) (map f (map g (pieces w (n - i) (drop (w * i) l)))) in
      omega arith

-- ---- references: one more

pub number_more : (w v first i x : ℕ) (l : List ℕ) → v ≡ w → reference_size * (first + i) + reference_size ≤ length l → x ≡ got 2 (reference_size * (first + i)) l
    → map (field w) (numbers_from first i l) ++ (field v x ∷ []) ≡ map (field w) (numbers_from first (i + 1) l)
unfolding numbers_from
number_more w v first i x l q h e =
    let d : reference_size * first + reference_size * i ≡ reference_size * (first + i) = omega arith in
    let here : entry reference_size (first + i) l ≡ entry reference_size i (drop (reference_size * first) l) =
    sym (ap (take reference_size) (drop-drop (reference_size * i) (reference_size * first) l ∙ ap (λ k. drop k l) d)) in
    field_more w v (numbers_from first i l) (numbers_from first (i + 1) l) x q
    (ap (map (num reference_size 0)) (pieces_more reference_size i (drop (reference_size * first) l))
    ∙ map_append (num reference_size 0) (pieces reference_size i (drop (reference_size * first) l)) (entry reference_size i (drop (reference_size * first) l) ∷ [])
    ∙ ap (λ y. numbers_from first i l ++ (y ∷ [])) (sym (e ∙ first_got 2 reference_size (first + i) l (omega arith) h ∙ ap (num 2 0) here)))
