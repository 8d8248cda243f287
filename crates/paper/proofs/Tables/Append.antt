-- One more entry behind a table that is padded with zero bytes. Assumes nothing.
use Prim.Native.Nat.{ℕ, zero, suc, ◌+◌, ◌*◌, ◌-◌, ◌≤◌}
use native.Mathlib.Nat.{add-suc, suc-add}
use native.Mathlib.Omega.{arith}
use mathlib.Core.Path.{◌≡◌, refl, sym, ap, ap₂, ◌∙◌}
use mathlib.Core.List.{List, [], ◌∷◌, ◌++◌, map, append_assoc, append-nil}
use lib.ListN.{length, drop, replicate, set, length-append, length-replicate}
use lib.Seq.{sets, length-sets, take-append_seam, drop-append-add}
use borrow.Author.Tests.{le-leb}
use Rattle.paper.specs.Lists.{joined}
use Rattle.paper.specs.Numbers.Bytes.{le}
use Rattle.paper.specs.CharDef.Reading.{Range, references}
use Rattle.paper.specs.Tables.Layout.{RangeSlot, slot_bytes, range_slots, range_table, reference_table, numbers_of, range_slot_size, reference_size}
use Rattle.paper.specs.Tables.Lent.{patch, padded}
use Rattle.paper.proofs.Tables.Laws.{patch_in, table_length}
use Rattle.paper.proofs.Tables.Trip.{numbers_length, rows_length, wide_row, wide_number}

-- ---- patches

sets_append : (p q l : List ℕ) (at : ℕ) → sets l at (p ++ q) ≡ sets (sets l at p) (at + length p) q
sets_append [] q l at = let e : at ≡ at + 0 = omega arith in ap (λ k. sets l k q) e
sets_append (x ∷ p) q l at =
    let e : suc at + length p ≡ at + suc (length p) = suc-add at (length p) ∙ sym (add-suc at (length p)) in
    sets_append p q (set l at x) (suc at) ∙ ap (λ k. sets (sets (set l at x) (suc at) p) k q) e

-- two patches, one behind the other
pub patch_patch : (at k : ℕ) (p q l : List ℕ) → k ≡ at + length p → at + length p + length q ≤ length l → patch k q (patch at p l) ≡ patch at (p ++ q) l
patch_patch at k p q l e h =
    let i : at + length (p ++ q) ≤ length l = simp length-append (omega arith) in
    let j : at + length p ≤ length l = omega arith in
    let m : at + length p + length q ≤ length (sets l at p) = rw length-sets h in
    ap₂ (λ a b. patch a q b) e (sym (patch_in at p l j))
    ∙ sym (patch_in (at + length p) q (sets l at p) m)
    ∙ sym (sets_append p q l at)
    ∙ patch_in at (p ++ q) l i

-- four numbers of two bytes, written one after another
pub four_puts : (at a b c d : ℕ) (l l₁ l₂ l₃ l₄ : List ℕ) → at + 8 ≤ length l
    → l₁ ≡ patch at (le 2 a) l → l₂ ≡ patch (at + 2) (le 2 b) l₁ → l₃ ≡ patch (at + 4) (le 2 c) l₂ → l₄ ≡ patch (at + 6) (le 2 d) l₃
    → l₄ ≡ patch at (le 2 a ++ le 2 b ++ le 2 c ++ le 2 d) l
four_puts at a b c d l l₁ l₂ l₃ l₄ h p q r s =
    s ∙ ap (patch (at + 6) (le 2 d)) (r ∙ ap (patch (at + 4) (le 2 c)) (q ∙ ap (patch (at + 2) (le 2 b)) p
    ∙ patch_patch at (at + 2) (le 2 a) (le 2 b) l refl (omega arith))
    ∙ patch_patch at (at + 4) (le 2 a ++ le 2 b) (le 2 c) l refl (omega arith))
    ∙ patch_patch at (at + 6) (le 2 a ++ le 2 b ++ le 2 c) (le 2 d) l refl (omega arith)

-- ---- padded tables

pub padded_none : (n : ℕ) → replicate n 0 ≡ padded n []
unfolding padded
padded_none n = let e : n ≡ n - 0 = omega arith in ap (λ (k : ℕ). replicate {A = ℕ} k 0) e

replicate_drop : (n k : ℕ) → ◌≡◌ {A = List ℕ} (drop k (replicate n 0)) (replicate (n - k) 0)
replicate_drop n zero = let e : n ≡ n - 0 = omega arith in ap (λ (m : ℕ). replicate {A = ℕ} m 0) e
replicate_drop zero (suc k) = let e : 0 ≡ 0 - suc k = omega arith in ap (λ (m : ℕ). replicate {A = ℕ} m 0) e
replicate_drop (suc n) (suc k) = let e : n - k ≡ suc n - suc k = omega arith in replicate_drop n k ∙ ap (λ (m : ℕ). replicate {A = ℕ} m 0) e

pub padded_length : (n : ℕ) (l : List ℕ) → length l ≤ n → length (padded n l) ≡ n
unfolding padded
padded_length n l h = simp (length-append, length-replicate) (omega arith)

-- writing at the end of what is used
pub patch_padded : (n : ℕ) (l p : List ℕ) → length l + length p ≤ n → patch (length l) p (padded n l) ≡ padded n (l ++ p)
unfolding patch padded
patch_padded n l p h =
    let z : List ℕ = replicate (n - length l) 0 in
    let a : length (l ++ replicate (n - length l) 0) ≡ n = simp (length-append, length-replicate) (omega arith) in
    let b : length l + length p ≤ length (l ++ replicate (n - length l) 0) = omega arith in
    let c : n - length l - length p ≡ n - length (l ++ p) = simp length-append (omega arith) in
    rw (le-leb (length l + length p) (length (l ++ replicate (n - length l) 0)) b)
    (ap₂ (λ x y. x ++ p ++ y) (take-append_seam l (replicate (n - length l) 0))
    (drop-append-add l (replicate (n - length l) 0) (length p) ∙ replicate_drop (n - length l) (length p) ∙ ap (λ m. replicate m 0) c))

-- ---- one more element

module _ {A : Type 0} (f : A → List ℕ) where
  pub table_append : (xs ys : List A) → joined (map f (xs ++ ys)) ≡ joined (map f xs) ++ joined (map f ys)
  table_append [] ys = refl
  table_append (x ∷ xs) ys = ap (λ l. f x ++ l) (table_append xs ys) ∙ sym (append_assoc (f x) (joined (map f xs)) (joined (map f ys)))

  pub table_snoc : (xs : List A) (x : A) → joined (map f (xs ++ (x ∷ []))) ≡ joined (map f xs) ++ f x
  table_snoc xs x = table_append xs (x ∷ []) ∙ ap (λ l. joined (map f xs) ++ l) (append-nil (f x))

-- ONE LAW over the width: an entry written at the count is one more element
pub entry_more : {A : Type 0} (w : ℕ) (f : A → List ℕ) → ((x : A) → length (f x) ≡ w) → (xs ys : List A) (at n : ℕ)
    → at ≡ w * length xs → w * length xs + w * length ys ≤ n
    → patch at (joined (map f ys)) (padded n (joined (map f xs))) ≡ padded n (joined (map f (xs ++ ys)))
entry_more w f wide xs ys at n e h =
    let a : length (joined (map f xs)) ≡ w * length xs = table_length w f wide xs in
    let b : length (joined (map f ys)) ≡ w * length ys = table_length w f wide ys in
    let c : at ≡ length (joined (map f xs)) = e ∙ sym a in
    ap (λ k. patch k (joined (map f ys)) (padded n (joined (map f xs)))) c
    ∙ patch_padded n (joined (map f xs)) (joined (map f ys)) (omega arith)
    ∙ ap (padded n) (sym (table_append f xs ys))

-- ---- one more range

abbrev pub new_slot : List Range → Range → RangeSlot
new_slot gs g = record { lower = g.lower; upper = g.upper; first = references gs; count = length g.categories }

rows_snoc : (at : ℕ) (gs : List Range) (g : Range)
    → range_slots at (gs ++ (g ∷ [])) ≡ range_slots at gs ++ (record { lower = g.lower; upper = g.upper; first = at + references gs; count = length g.categories } ∷ [])
unfolding range_slots references
rows_snoc at [] g = let e : at ≡ at + 0 = omega arith in ap (λ k. record { lower = g.lower; upper = g.upper; first = k; count = length g.categories } ∷ []) e
rows_snoc at (h ∷ gs) g =
    let e : at + length h.categories + references gs ≡ at + (length h.categories + references gs) = omega arith in
    ap (λ l. record { lower = h.lower; upper = h.upper; first = at; count = length h.categories } ∷ l)
    (rows_snoc (at + length h.categories) gs g
    ∙ ap (λ k. range_slots (at + length h.categories) gs ++ (record { lower = g.lower; upper = g.upper; first = k; count = length g.categories } ∷ [])) e)

numbers_snoc : (gs : List Range) (g : Range) → numbers_of (gs ++ (g ∷ [])) ≡ numbers_of gs ++ g.categories
numbers_snoc [] g = append-nil g.categories
numbers_snoc (h ∷ gs) g = ap (λ l. h.categories ++ l) (numbers_snoc gs g) ∙ sym (append_assoc h.categories (numbers_of gs) g.categories)

pub references_snoc : (gs : List Range) (g : Range) → references (gs ++ (g ∷ [])) ≡ references gs + length g.categories
references_snoc gs g =
    sym (numbers_length (gs ++ (g ∷ []))) ∙ ap length (numbers_snoc gs g) ∙ length-append (numbers_of gs) g.categories
    ∙ ap (λ k. k + length g.categories) (numbers_length gs)

pub ranges_more : (gs : List Range) (g : Range) (n : ℕ) → range_slot_size * length gs + range_slot_size ≤ n
    → patch (range_slot_size * length gs) (slot_bytes (new_slot gs g)) (padded n (range_table gs)) ≡ padded n (range_table (gs ++ (g ∷ [])))
ranges_more gs g n h =
    let e : length (range_slots 0 gs) ≡ length gs = rows_length 0 gs in
    let a : range_slot_size * length gs ≡ range_slot_size * length (range_slots 0 gs) = omega arith in
    let z : 0 + references gs ≡ references gs = omega arith in
    ap (λ l. patch (range_slot_size * length gs) l (padded n (range_table gs))) (sym (append-nil (slot_bytes (new_slot gs g))))
    ∙ entry_more range_slot_size slot_bytes wide_row (range_slots 0 gs) (new_slot gs g ∷ []) (range_slot_size * length gs) n a (omega arith)
    ∙ ap (λ l. padded n (joined (map slot_bytes l)))
    (sym (rows_snoc 0 gs g ∙ ap (λ k. range_slots 0 gs ++ (record { lower = g.lower; upper = g.upper; first = k; count = length g.categories } ∷ [])) z))

pub references_more : (gs : List Range) (g : Range) (n : ℕ) → reference_size * references gs + reference_size * length g.categories ≤ n
    → patch (reference_size * references gs) (joined (map (le reference_size) g.categories)) (padded n (reference_table gs)) ≡ padded n (reference_table (gs ++ (g ∷ [])))
references_more gs g n h =
    let e : length (numbers_of gs) ≡ references gs = numbers_length gs in
    let a : reference_size * references gs ≡ reference_size * length (numbers_of gs) = omega arith in
    entry_more reference_size (le reference_size) wide_number (numbers_of gs) g.categories (reference_size * references gs) n a (omega arith)
    ∙ ap (λ l. padded n (joined (map (le reference_size) l))) (sym (numbers_snoc gs g))
