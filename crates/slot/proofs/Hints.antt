-- Hints: one more name sets one place, and their number stays. Hints and words, place by place: a place of either set, and what each place says.
-- Assumes nothing.
use Prim.Native.Nat.{ℕ, zero, suc, ◌+◌, ◌-◌, ◌%◌, ◌≤◌, ◌<◌}
use native.Mathlib.Nat.{suc-add, add-suc}
use native.Mathlib.Omega.{arith}
use mathlib.Core.Path.{◌≡◌, refl, sym, ap, ◌∙◌}
use mathlib.Core.List.{List, [], ◌∷◌, ◌++◌, map}
use lib.ListN.{length, take, drop, get_or, set, replicate, length-set, length-replicate}
use Rattle.paper.specs.Sizes.{max_categories}
use Rattle.paper.proofs.Lists.Parts.{take_part}
use Rattle.mark.specs.Mark.{mark}
use Rattle.slot.specs.Slots.{slot_of, hint_of, hinted, hints_of, slotted}

-- ---- hints

hinted_length : (i : ℕ) (names : List (List ℕ)) (hints : List ℕ) → length (hinted i names hints) ≡ length hints
unfolding hinted
hinted_length i [] hints = refl
hinted_length i (n ∷ names) hints = hinted_length (suc i) names (set hints (hint_of n) i) ∙ length-set hints (hint_of n) i

hinted_snoc : (i : ℕ) (names : List (List ℕ)) (n : List ℕ) (hints : List ℕ) → hinted i (names ++ (n ∷ [])) hints ≡ set (hinted i names hints) (hint_of n) (i + length names)
unfolding hinted
hinted_snoc i [] n hints = let e : i ≡ i + 0 = omega arith in ap (set hints (hint_of n)) e
hinted_snoc i (x ∷ names) n hints =
    let e : suc i + length names ≡ i + suc (length names) = suc-add i (length names) ∙ sym (add-suc i (length names)) in
    hinted_snoc (suc i) names n (set hints (hint_of x) i) ∙ ap (set (hinted (suc i) names (set hints (hint_of x) i)) (hint_of n)) e

pub hints_length : (names : List (List ℕ)) → length (hints_of names) ≡ max_categories
unfolding hints_of
hints_length names = hinted_length 0 names (replicate max_categories 0) ∙ length-replicate {A = ℕ} max_categories 0

pub hints_snoc : (names : List (List ℕ)) (n : List ℕ) → hints_of (names ++ (n ∷ [])) ≡ set (hints_of names) (hint_of n) (length names)
unfolding hints_of
hints_snoc names n =
    let e : 0 + length names ≡ length names = omega arith in
    hinted_snoc 0 names n (replicate max_categories 0) ∙ ap (set (hinted 0 names (replicate max_categories 0)) (hint_of n)) e

pub hints_none : replicate max_categories 0 ≡ hints_of []
unfolding hints_of hinted
hints_none = refl

-- the place as the code reckons it
pub hint_place : (text : List ℕ) (start end m : ℕ) → start ≤ end → m ≡ mark (take (end - start) (drop start text)) → m % max_categories ≡ hint_of (drop start (take end text))
unfolding hint_of
hint_place text start end m h e =
    let k : start + (end - start) ≡ end = omega arith in
    ap (λ j. j % max_categories) (e ∙ ap mark (take_part start (end - start) text ∙ ap (λ j. drop start (take j text)) k))

pub hint_small : (n : List ℕ) → hint_of n < max_categories
unfolding hint_of
hint_small n = omega arith

-- ---- place by place

pub slotted_length : (hints words : List ℕ) → length hints ≡ length words → length (slotted hints words) ≡ length words
unfolding slotted
slotted_length [] [] e = refl
slotted_length [] (w ∷ words) e = absurd (omega arith)
slotted_length (h ∷ hints) [] e = absurd (omega arith)
slotted_length (h ∷ hints) (w ∷ words) e = ap suc (slotted_length hints words (omega arith))

pub slotted_at : (hints words : List ℕ) (i : ℕ) → i < length hints → i < length words → get_or (slotted hints words) i 0 ≡ slot_of (get_or hints i 0) (get_or words i 0)
unfolding slotted
slotted_at [] words i p q = absurd (omega arith)
slotted_at (h ∷ hints) [] i p q = absurd (omega arith)
slotted_at (h ∷ hints) (w ∷ words) zero p q = refl
slotted_at (h ∷ hints) (w ∷ words) (suc i) p q = slotted_at hints words i (omega arith) (omega arith)

pub set_word : (hints words : List ℕ) (i v : ℕ) → i < length hints → i < length words → set (slotted hints words) i (slot_of (get_or hints i 0) v) ≡ slotted hints (set words i v)
unfolding slotted
set_word [] words i v p q = absurd (omega arith)
set_word (h ∷ hints) [] i v p q = absurd (omega arith)
set_word (h ∷ hints) (w ∷ words) zero v p q = refl
set_word (h ∷ hints) (w ∷ words) (suc i) v p q = ap (λ l. slot_of h w ∷ l) (set_word hints words i v (omega arith) (omega arith))

pub set_hint : (hints words : List ℕ) (i v : ℕ) → i < length hints → i < length words → set (slotted hints words) i (slot_of v (get_or words i 0)) ≡ slotted (set hints i v) words
unfolding slotted
set_hint [] words i v p q = absurd (omega arith)
set_hint (h ∷ hints) [] i v p q = absurd (omega arith)
set_hint (h ∷ hints) (w ∷ words) zero v p q = refl
set_hint (h ∷ hints) (w ∷ words) (suc i) v p q = ap (λ l. slot_of h w ∷ l) (set_hint hints words i v (omega arith) (omega arith))

pub slotted_zero : (n : ℕ) → replicate n 0 ≡ slotted (replicate n 0) (replicate n 0)
unfolding slotted
slotted_zero zero = refl
slotted_zero (suc n) = ap (λ l. 0 ∷ l) (slotted_zero n)

-- what does not look at the hint is said of the words
pub slotted_map : {A : Type 0} (f : ℕ → A) → ((h w : ℕ) → f (slot_of h w) ≡ f w) → (hints words : List ℕ) → length hints ≡ length words → map f (slotted hints words) ≡ map f words
unfolding slotted
slotted_map f e [] [] l = refl
slotted_map f e [] (w ∷ words) l = absurd (omega arith)
slotted_map f e (h ∷ hints) [] l = absurd (omega arith)
slotted_map f e (h ∷ hints) (w ∷ words) l = ap (λ x. x ∷ map f (slotted hints words)) (e h w) ∙ ap (λ m. f w ∷ m) (slotted_map f e hints words (omega arith))
