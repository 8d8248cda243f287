-- Names that stand one behind another from 0 are each where their own slot says: `placed_names` is the paper's `names_in`.
-- Assumes nothing.
use denote.Bor.{Bor}
use Prim.Native.Nat.{ℕ, zero, suc, ◌+◌, ◌*◌, ◌-◌, ◌≤◌, ◌<◌}
use native.Mathlib.Nat.{mul-suc, mul-zero}
use native.Mathlib.Numerals.{add-one}
use native.Mathlib.Omega.{arith}
use mathlib.Core.Logic.{◌⊎◌, inl, inr}
use mathlib.Core.Path.{◌≡◌, refl, sym, ap, ap₂, ◌∙◌}
use mathlib.Core.List.{List, [], ◌∷◌, ◌++◌, map}
use lib.Dec.{T, leb, ltb, eqb}
use lib.ListN.{length, take, drop}
use lib.Seq.{drop-drop}
use borrow.Author.Tests.{le-leb, lt-leb}
use mir.Facts.{and_yes, leb_yes, eqb_yes}
use Rattle.std.specs.List.{slice_range}
use Rattle.std.specs.Option.{MatchOption, unwrap_or}
use Rattle.std.specs.Prelude.{Option, None, Some}
use Rattle.paper.specs.Computed.HandedIn.{name_slots_stand}
use Rattle.paper.specs.Tables.Layout.{NameSlot, name_slot_of, pieces, split}
use Rattle.paper.specs.Tables.Lent.{num, got}
use Rattle.name_rules.specs.Placed.{placed, name_of, placed_names}
use Rattle.table_rules.proofs.Entries.{field_got, first_got}

-- ---- what the code finds at slot i

module _ (names categories : List ℕ) (i start len : ℕ) (long : 4 * i + 4 ≤ length categories)
    (es : start ≡ got 2 (4 * i) categories) (el : len ≡ got 2 (4 * i + 2) categories) where
  slot_is : ◌≡◌ {A = NameSlot} (record { start = start; len = len }) (name_slot_of (take 4 (drop (4 * i) categories)))
  slot_is =
      let p : start ≡ num 2 0 (take 4 (drop (4 * i) categories)) = es ∙ first_got 2 4 i categories (omega arith) long in
      let q : len ≡ num 2 2 (take 4 (drop (4 * i) categories)) = el ∙ field_got 2 2 4 i categories (omega arith) long in
      rw (p, q)

  name_inside : start + len ≤ length names → take len (drop start names) ≡ name_of i categories names
  unfolding name_of placed
  name_inside h =
      sym (ap (placed names) (sym slot_is) ∙ rw (le-leb (start + len) (length names) h))

  name_outside : length names < start + len → [] ≡ name_of i categories names
  unfolding name_of placed
  name_outside h =
      sym (ap (placed names) (sym slot_is) ∙ rw (lt-leb (start + len) (length names) h))

  -- the answer of `get`, or nothing
  pub name_found : (r : Option (Bor (List ℕ))) (d : Bor (List ℕ)) → d.now ≡ []
      → MatchOption r ((start + len < start) ⊎ (length names < start + len))
      (λ x. (start ≤ start + len) × (start + len ≤ length names) × (x.now ≡ slice_range names start (start + len)) × (length x.now + start ≡ start + len))
      → (unwrap_or r d).now ≡ name_of i categories names
  name_found None d e (inl h) = absurd (omega arith)
  name_found None d e (inr h) = e ∙ name_outside h
  name_found (Some x) d e h =
      let k : start + len - start ≡ len = omega arith in
      h.2 ∙ ap (λ m. take m (drop start names)) k ∙ name_inside h.1

-- ---- one behind another

behind : (names : List ℕ) (total at : ℕ) (ps : List NameSlot) → total ≤ length names → T (name_slots_stand total at ps)
    → map (placed names) ps ≡ split (map (λ p. p.len) ps) (drop at names)
unfolding name_slots_stand split placed
behind names total at [] room t = refl
behind names total at (p ∷ ps) room t =
    let a = and_yes (eqb p.start at) _ t in
    let b = and_yes (ltb 0 p.len) _ a.1 in
    let c = and_yes (leb (at + p.len) total) (name_slots_stand total (at + p.len) ps) b.1 in
    let e : p.start ≡ at = eqb_yes a.0 in
    let f : at + p.len ≤ total = leb_yes c.0 in
    let g : p.start + p.len ≤ length names = omega arith in
    ap₂ (λ x xs. x ∷ xs)
    (rw (le-leb (p.start + p.len) (length names) g) (ap (λ k. take p.len (drop k names)) e))
    (behind names total (at + p.len) ps room c.1 ∙ ap (λ l. split (map (λ q. q.len) ps) l) (sym (drop-drop p.len at names)))

pub placed_are : (names categories : List ℕ) (n total : ℕ) → total ≤ length names
    → T (name_slots_stand total 0 (map name_slot_of (pieces 4 n categories)))
    → placed_names n categories names ≡ split (map (λ p. p.len) (map name_slot_of (pieces 4 n categories))) names
unfolding placed_names
placed_are names categories n total room t = behind names total 0 (map name_slot_of (pieces 4 n categories)) room t

-- ---- one name more

pieces_snoc : (w n : ℕ) (l : List ℕ) → pieces w (suc n) l ≡ pieces w n l ++ (take w (drop (w * n) l) ∷ [])
unfolding pieces
pieces_snoc w zero l = ap (λ m. take w (drop m l) ∷ []) (sym (mul-zero w))
pieces_snoc w (suc n) l =
    let e : w + w * n ≡ w * suc n = sym (mul-suc w n ∙ omega arith) in
    ap (λ ls. take w l ∷ ls) (pieces_snoc w n (drop w l))
    ∙ ap (λ m. take w l ∷ (pieces w n (drop w l) ++ (take w m ∷ []))) (drop-drop (w * n) w l ∙ ap (λ m. drop m l) e)

map_snoc : {A B : Type 0} (f : A → B) (xs : List A) (x : A) → map f (xs ++ (x ∷ [])) ≡ map f xs ++ (f x ∷ [])
map_snoc f [] x = refl
map_snoc f (y ∷ xs) x = ap (λ l. f y ∷ l) (map_snoc f xs x)

pub placed_snoc : (names categories : List ℕ) (n : ℕ) → placed_names (n + 1) categories names ≡ placed_names n categories names ++ (name_of n categories names ∷ [])
unfolding placed_names name_of
placed_snoc names categories n =
    ap (λ m. map (placed names) (map name_slot_of (pieces 4 m categories))) (add-one n)
    ∙ ap (λ l. map (placed names) (map name_slot_of l)) (pieces_snoc 4 n categories)
    ∙ ap (map (placed names)) (map_snoc name_slot_of (pieces 4 n categories) (take 4 (drop (4 * n) categories)))
    ∙ map_snoc (placed names) (map name_slot_of (pieces 4 n categories)) (name_slot_of (take 4 (drop (4 * n) categories)))
