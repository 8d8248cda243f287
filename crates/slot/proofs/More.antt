-- No name yet, and one name more: its bytes behind those of the others, its slot behind theirs, and its hint.
-- Assumes nothing.
use Prim.Native.Nat.{ℕ, zero, suc, ◌+◌, ◌*◌, ◌-◌, ◌/◌, ◌%◌, ◌≤◌, ◌<◌}
use native.Mathlib.Decide.{ℕ_discrete}
use native.Mathlib.Omega.{arith}
use mathlib.Core.Path.{◌≡◌, refl, sym, ap, ap₂, ◌∙◌}
use mathlib.Core.Bool.{Bool, true, false, cond, ◌||◌}
use mathlib.Core.List.{List, [], ◌∷◌, ◌++◌, map}
use lib.ListN.{length, get_or, set, replicate, length-append, length-set, get_or-append}
use lib.Seq.{get_or-append_seam}
use Rattle.paper.specs.Sizes.{max_categories, max_name_bytes}
use Rattle.paper.specs.Lists.{any, same, position_of, joined, sum}
use Rattle.paper.specs.CharDef.Reading.{name_bytes}
use Rattle.paper.specs.Tables.Layout.{name_slots}
use Rattle.paper.specs.Tables.Lent.{padded, patch}
use Rattle.paper.proofs.Lists.Facts.{T→true, true→T, joined_length, joined_snoc}
use Rattle.paper.proofs.Lists.Seen.{same_eq, same_refl, position_stays}
use Rattle.paper.proofs.Tables.Laws.{patch_in}
use Rattle.paper.proofs.Tables.Append.{patch_padded, padded_length, padded_none}
use Rattle.slot.specs.Slots.{slot_unit, hint_unit, slot_word, slot_of, with_word, with_hint, hint_of, hints_of, slotted}
use Rattle.slot.specs.Laid.{Laid, Added}
use Rattle.slot.proofs.Hints.{hints_length, hints_none, hints_snoc, hint_small, slotted_at, set_word, set_hint, slotted_zero}
use Rattle.slot.proofs.Laid.{slots_length, words_long, any_at}

-- ---- no name yet

-- zero bytes and zero slots hold no name: where a reader starts
pub none_laid : (store slots : List ℕ) → store ≡ padded max_name_bytes [] → slots ≡ replicate max_categories 0 → Laid [] store slots 0 0
unfolding name_bytes name_slots
none_laid store slots p q =
    record {
      count_is = refl;
      bytes_is = refl;
      few = omega arith;
      short = omega arith;
      single = λ i lt. absurd (omega arith);
      stored = p;
      in_slots = q ∙ slotted_zero max_categories ∙ ap₂ slotted hints_none (padded_none max_categories);
    }

-- ---- the new name's number

pub any_more : (n : List ℕ) (names : List (List ℕ)) → any (same n) (names ++ (n ∷ [])) ≡ true
any_more n names =
    let l : length (names ++ (n ∷ [])) ≡ length names + 1 = length-append names (n ∷ []) in
    any_at n (names ++ (n ∷ [])) (length names) (omega arith) (ap (same n) (get_or-append_seam names n [] []) ∙ T→true (same n n) (same_refl n))

pub place_more : (n : List ℕ) (names : List (List ℕ)) → any (same n) names ≡ false → length names ≡ position_of same n (names ++ (n ∷ []))
place_more n [] h = sym (ap (λ b. cond b zero (suc zero)) (T→true (same n n) (same_refl n)))
place_more n (x ∷ names) h = go (same n x) h (place_more n names)
  where
    go : (b : Bool) → (b || any (same n) names) ≡ false → (any (same n) names ≡ false → length names ≡ position_of same n (names ++ (n ∷ [])))
        → suc (length names) ≡ cond b zero (suc (position_of same n (names ++ (n ∷ []))))
    go true e ih = absurd (let z : ◌≡◌ {A = ℕ} 0 1 = cc in omega arith)
    go false e ih = ap suc (ih e)

-- a new name stands once, and the others stay as they were
single_more : (n : List ℕ) (names : List (List ℕ)) → any (same n) names ≡ false → ((i : ℕ) → i < length names → position_of same (get_or names i []) names ≡ i)
    → (i : ℕ) → i < length (names ++ (n ∷ [])) → position_of same (get_or (names ++ (n ∷ [])) i []) (names ++ (n ∷ [])) ≡ i
single_more n names new before i lt =
    elim (ℕ_discrete i (length names)) [
      | yes d ↦ ap (λ k. position_of same (get_or (names ++ (n ∷ [])) k []) (names ++ (n ∷ []))) d
          ∙ ap (λ x. position_of same x (names ++ (n ∷ []))) (get_or-append_seam names n [] []) ∙ sym (place_more n names new) ∙ sym d
      | no d ↦
          let l : length (names ++ (n ∷ [])) ≡ length names + 1 = length-append names (n ∷ []) in
          let h : i < length names = omega arith in
          let x = get_or names i [] in
          ap (λ y. position_of same y (names ++ (n ∷ []))) (get_or-append names (n ∷ []) [] i h)
          ∙ position_stays same same_eq x names (n ∷ []) (true→T _ (any_at x names i h (T→true (same x x) (same_refl x))))
          ∙ before i h
    ]

-- ---- the store and the slots with one name more

lengths_snoc : (names : List (List ℕ)) (n : List ℕ) → map length (names ++ (n ∷ [])) ≡ map length names ++ (length n ∷ [])
lengths_snoc [] n = refl
lengths_snoc (x ∷ names) n = ap (λ l. length x ∷ l) (lengths_snoc names n)

bytes_snoc : (names : List (List ℕ)) (n : List ℕ) → name_bytes (names ++ (n ∷ [])) ≡ name_bytes names + length n
unfolding name_bytes
bytes_snoc names n =
    sym (joined_length (names ++ (n ∷ []))) ∙ ap length (joined_snoc names n) ∙ length-append (joined names) n
    ∙ ap (λ k. k + length n) (joined_length names)

slots_snoc : (at : ℕ) (ls : List ℕ) (k : ℕ) → map slot_word (name_slots at (ls ++ (k ∷ []))) ≡ map slot_word (name_slots at ls) ++ (((at + sum ls) * slot_unit + k) ∷ [])
unfolding name_slots
slots_snoc at [] k = let e : at ≡ at + 0 = omega arith in ap (λ m. (m * slot_unit + k) ∷ []) e
slots_snoc at (l ∷ ls) k =
    let e : at + l + sum ls ≡ at + (l + sum ls) = omega arith in
    ap (λ m. (at * slot_unit + l) ∷ m) (slots_snoc (at + l) ls k ∙ ap (λ m. map slot_word (name_slots (at + l) ls) ++ ((m * slot_unit + k) ∷ [])) e)

store_more : (size : ℕ) (names : List (List ℕ)) (n : List ℕ) → name_bytes names + length n ≤ size
    → patch (name_bytes names) n (padded size (joined names)) ≡ padded size (joined (names ++ (n ∷ [])))
unfolding name_bytes
store_more size names n h =
    let e : sum (map length names) ≡ length (joined names) = sym (joined_length names) in
    ap (λ k. patch k n (padded size (joined names))) e ∙ patch_padded size (joined names) n (omega arith) ∙ ap (padded size) (sym (joined_snoc names n))

set_padded : (size : ℕ) (l : List ℕ) (x : ℕ) → length l < size → set (padded size l) (length l) x ≡ padded size (l ++ (x ∷ []))
set_padded size l x h =
    let e : length (padded size l) ≡ size = padded_length size l (omega arith) in
    patch_in (length l) (x ∷ []) (padded size l) (omega arith) ∙ patch_padded size l (x ∷ []) (omega arith)

slots_more : (size : ℕ) (names : List (List ℕ)) (n : List ℕ) → length names < size
    → set (padded size (map slot_word (name_slots 0 (map length names)))) (length names) (name_bytes names * slot_unit + length n)
    ≡ padded size (map slot_word (name_slots 0 (map length (names ++ (n ∷ [])))))
unfolding name_bytes
slots_more size names n h =
    let e : length names ≡ length (map slot_word (name_slots 0 (map length names))) = sym (slots_length names) in
    let z : 0 + sum (map length names) ≡ sum (map length names) = omega arith in
    ap (λ k. set (padded size (map slot_word (name_slots 0 (map length names)))) k (sum (map length names) * slot_unit + length n)) e
    ∙ set_padded size (map slot_word (name_slots 0 (map length names))) (sum (map length names) * slot_unit + length n) (omega arith)
    ∙ ap (padded size)
    (ap (λ m. map slot_word (name_slots 0 (map length names)) ++ ((m * slot_unit + length n) ∷ [])) (sym z)
    ∙ sym (slots_snoc 0 (map length names) (length n))
    ∙ ap (λ m. map slot_word (name_slots 0 m)) (sym (lengths_snoc names n)))

-- every word stays below the hints
word_small : (at : ℕ) (ls : List ℕ) (i : ℕ) → at + sum ls < slot_unit → get_or (map slot_word (name_slots at ls)) i 0 < hint_unit
unfolding name_slots
word_small at [] i h = omega arith
word_small at (l ∷ ls) zero h = let g : at + (l + sum ls) < slot_unit = h in omega arith
word_small at (l ∷ ls) (suc i) h = let g : at + (l + sum ls) < slot_unit = h in word_small (at + l) ls i (omega arith)

zero_small : (n i : ℕ) → get_or (replicate n 0) i 0 < hint_unit
zero_small zero i = omega arith
zero_small (suc n) zero = omega arith
zero_small (suc n) (suc i) = zero_small n i

behind_small : (l : List ℕ) (n : ℕ) → ((i : ℕ) → get_or l i 0 < hint_unit) → (i : ℕ) → get_or (l ++ replicate n 0) i 0 < hint_unit
behind_small [] n f i = zero_small n i
behind_small (x ∷ l) n f zero = f 0
behind_small (x ∷ l) n f (suc i) = behind_small l n (λ k. f (suc k)) i

words_small : (names : List (List ℕ)) (i : ℕ) → name_bytes names < slot_unit → get_or (padded max_categories (map slot_word (name_slots 0 (map length names)))) i 0 < hint_unit
unfolding padded name_bytes
words_small names i h = behind_small (map slot_word (name_slots 0 (map length names))) (max_categories - length (map slot_word (name_slots 0 (map length names)))) (λ k. word_small 0 (map length names) k (omega arith)) i

-- a word put and then a hint
pub added : (slots middle after : List ℕ) (count v word p place : ℕ) → middle ≡ set slots count (with_word v (get_or slots count 0)) → v ≡ word
    → after ≡ set middle p (with_hint count (get_or middle p 0)) → p ≡ place → Added slots count word place after
added slots middle after count v word p place a e b f m h =
    b ∙ ap₂ (λ x k. set x k (with_hint count (get_or x k 0))) (a ∙ ap (λ w. set slots count (with_word w (get_or slots count 0))) e ∙ sym h) f

-- THE THEOREM: bytes, word and hint written, the store and the slots hold one name more
module _ {names : List (List ℕ)} {store slots : List ℕ} {count bytes : ℕ} (n : List ℕ) (z : Laid names store slots count bytes) (new : any (same n) names ≡ false)
    (few : count < max_categories) (short : bytes + length n ≤ max_name_bytes) where
  abbrev words : List ℕ
  words = padded max_categories (map slot_word (name_slots 0 (map length names)))

  abbrev words_now : List ℕ
  words_now = padded max_categories (map slot_word (name_slots 0 (map length (names ++ (n ∷ [])))))

  word_put : set slots count (with_word (bytes * slot_unit + length n) (get_or slots count 0)) ≡ slotted (hints_of names) words_now
  word_put =
      let c = z.count_is in
      let b = z.bytes_is in
      let l = words_long z in
      let h = hints_length names in
      let s = words_small names count (omega arith) in
      let old : get_or slots count 0 ≡ slot_of (get_or (hints_of names) count 0) (get_or words count 0) =
      ap (λ m. get_or m count 0) z.in_slots ∙ slotted_at (hints_of names) words count (omega arith) (omega arith) in
      let hint : get_or slots count 0 / hint_unit ≡ get_or (hints_of names) count 0 = omega arith in
      ap₂ (λ m k. set m count (slot_of k (bytes * slot_unit + length n))) z.in_slots hint
      ∙ set_word (hints_of names) words count (bytes * slot_unit + length n) (omega arith) (omega arith)
      ∙ ap (slotted (hints_of names))
      (ap₂ (λ k m. set words k (m * slot_unit + length n)) c b ∙ slots_more max_categories names n (omega arith))

  hint_put : (middle : List ℕ) → middle ≡ slotted (hints_of names) words_now
      → set middle (hint_of n) (with_hint count (get_or middle (hint_of n) 0)) ≡ slotted (hints_of (names ++ (n ∷ []))) words_now
  hint_put middle e =
      let c = z.count_is in
      let b = z.bytes_is in
      let h = hints_length names in
      let p = hint_small n in
      let l : length words_now ≡ max_categories = ap length (sym (slots_more max_categories names n (omega arith))) ∙ length-set words (length names) _ ∙ words_long z in
      let s = words_small (names ++ (n ∷ [])) (hint_of n) (omega (arith, bytes_snoc names n)) in
      let old : get_or middle (hint_of n) 0 ≡ slot_of (get_or (hints_of names) (hint_of n) 0) (get_or words_now (hint_of n) 0) =
      ap (λ m. get_or m (hint_of n) 0) e ∙ slotted_at (hints_of names) words_now (hint_of n) (omega arith) (omega arith) in
      let word : get_or middle (hint_of n) 0 % hint_unit ≡ get_or words_now (hint_of n) 0 = omega arith in
      ap₂ (λ m w. set m (hint_of n) (slot_of count w)) e word
      ∙ set_hint (hints_of names) words_now (hint_of n) count (omega arith) (omega arith)
      ∙ ap (λ hs. slotted hs words_now) (ap (set (hints_of names) (hint_of n)) c ∙ sym (hints_snoc names n))

  pub laid_more : (after : List ℕ) → Added slots count (bytes * slot_unit + length n) (hint_of n) after
      → Laid (names ++ (n ∷ [])) (patch bytes n store) after (count + 1) (bytes + length n)
  laid_more after f =
      let c = z.count_is in
      let b = z.bytes_is in
      let l : length (names ++ (n ∷ [])) ≡ length names + 1 = length-append names (n ∷ []) in
      let m = bytes_snoc names n in
      record {
        count_is = omega arith;
        bytes_is = omega arith;
        few = omega arith;
        short = short;
        single = single_more n names new z.single;
        stored = ap₂ (λ x y. patch x n y) b z.stored ∙ store_more max_name_bytes names n (omega arith);
        in_slots = f _ refl ∙ hint_put _ word_put;
      }
