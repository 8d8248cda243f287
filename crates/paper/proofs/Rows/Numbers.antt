-- Over tables that hold together, finding a name gives the lowest number with that name in the reading, and a number gives the name and the
-- definition that have it there; none gives 26. Idea: slots that stand one behind another cut the store into the reading's names.
-- Assumes nothing.
use Prim.Native.Nat.{ℕ, zero, suc, ◌+◌, ◌*◌, ◌<◌, ◌≤◌}
use native.Mathlib.Nat.{le_of_suc-le-suc, not-suc-le-zero, mul-suc, mul-zero}
use native.Mathlib.Omega.{arith}
use mathlib.Core.Path.{◌≡◌, refl, sym, ap, ap₂, ◌∙◌, subst}
use mathlib.Core.Bool.{Bool, true, false, cond, ◌||◌}
use mathlib.Core.List.{List, [], ◌∷◌, map}
use mathlib.Core.Option.{none, some}
use lib.Dec.{T, leb, ltb, eqb, eqb→eq}
use lib.ListN.{length, get_or, take, drop, length-map}
use lib.Seq.{drop-drop}
use mir.Facts.{and_yes, leb_yes}
use borrow.Author.Tests.{leb-true, leb-false, le-ltb}
use Rattle.paper.specs.Refusals.{number_unknown}
use Rattle.paper.specs.Lists.{all, any}
use Rattle.paper.specs.CharDef.Reading.{Reading}
use Rattle.paper.specs.Rows.Lookup.{gives, refuses}
use Rattle.paper.specs.Rows.Numbers.{name_slots_of, name_in, past_store, lowest_named, find_name, number_of, definition_at, name_at, entry_at, lookup_definition, category_name, name_of}
use Rattle.paper.specs.Pack.Rules.{once}
use Rattle.paper.specs.Tables.Layout.{NameSlot, Tables, pieces, name_slot_of, definition_of, split, definition_size, name_slot_size}
use Rattle.paper.specs.Computed.HandedIn.{name_slots_stand, slots_stand, flagged, name_slots_in, names_in, slots_in, numbers_in, enough, decoded, holds, handed_in}
use Rattle.paper.specs.Computed.Rules.{formed}
use Rattle.paper.specs.declared.Counts.{Counts}
use Rattle.paper.proofs.Apart.{zero_one}
use Rattle.paper.proofs.Lists.Facts.{true→T}
use Rattle.paper.proofs.Rows.Lowest.{once_lowest}
use Rattle.paper.proofs.Tables.Laws.{pieces_length}
use Rattle.paper.proofs.Tables.Trip.{Enough, says}

-- ---- entries by number

number_past : {A : Type 0} (xs : List A) (k : ℕ) → length xs ≤ k → number_of xs k ≡ refuses number_unknown
unfolding number_of
number_past [] k h = refl
number_past (x ∷ xs) zero h = absurd (not-suc-le-zero h)
number_past (x ∷ xs) (suc k) h = number_past xs k (le_of_suc-le-suc h)

module _ {A : Type 0} (f : List ℕ → A) (w : ℕ) where
  entry_on : (k : ℕ) (l : List ℕ) → take w (drop (w * k) (drop w l)) ≡ entry_at w l (suc k)
  entry_on k l = let e : w + w * k ≡ w * suc k = omega (arith, mul-suc w k) in ap (take w) (drop-drop (w * k) w l ∙ ap (λ m. drop m l) e)

  entry_first : (l : List ℕ) → take w l ≡ entry_at w l 0
  entry_first l = ap (λ m. take w (drop m l)) (sym (mul-zero w))

  entry_number : (n : ℕ) (l : List ℕ) (k : ℕ) → k < n → number_of (map f (pieces w n l)) k ≡ gives (f (entry_at w l k))
  unfolding number_of pieces
  entry_number zero l k h = absurd (not-suc-le-zero h)
  entry_number (suc n) l zero h = ap (λ p. gives (f p)) (entry_first l)
  entry_number (suc n) l (suc k) h = entry_number n (drop w l) k (le_of_suc-le-suc h) ∙ ap (λ p. gives (f p)) (entry_on k l)

  entry_test : (p : A → Bool) (n : ℕ) (l : List ℕ) (k : ℕ) → k < n → any p (map f (pieces w n l)) ≡ false → p (f (entry_at w l k)) ≡ false
  unfolding pieces
  entry_test p zero l k h e = absurd (not-suc-le-zero h)
  entry_test p (suc n) l k h e = go (p (f (take w l))) refl e k h (entry_test p n (drop w l))
    where
      go : (b : Bool) → p (f (take w l)) ≡ b → (b || any p (map f (pieces w n (drop w l)))) ≡ false → (k : ℕ) → k < suc n
          → ((k : ℕ) → k < n → any p (map f (pieces w n (drop w l))) ≡ false → p (f (entry_at w (drop w l) k)) ≡ false) → p (f (entry_at w l k)) ≡ false
      go true d e k h ih = absurd (subst T e tt)
      go false d e zero h ih = ap (λ q. p (f q)) (sym (entry_first l)) ∙ d
      go false d e (suc k) h ih = ap (λ q. p (f q)) (sym (entry_on k l)) ∙ ih k (le_of_suc-le-suc h) e

named_number : (store : List ℕ) (ps : List NameSlot) (k : ℕ) → number_of (map (name_in store) ps) k ≡ name_of store (number_of ps k)
unfolding number_of
named_number store [] k = refl
named_number store (p ∷ ps) zero = refl
named_number store (p ∷ ps) (suc k) = named_number store ps k

-- ---- slots one behind another

slots_cut : (total at : ℕ) (ps : List NameSlot) (store : List ℕ) → T (name_slots_stand total at ps) → total ≤ length store
    → (map (name_in store) ps ≡ split (map (λ p. p.len) ps) (drop at store)) × (any (past_store store) ps ≡ false)
unfolding name_slots_stand split
slots_cut total at [] store t h = (refl, refl)
slots_cut total at (p ∷ ps) store t h =
    let a = and_yes (eqb p.start at) _ t in
    let b = and_yes (ltb 0 p.len) _ a.1 in
    let c = and_yes (leb (at + p.len) total) _ b.1 in
    let s : p.start ≡ at = eqb→eq p.start at a.0 in
    let k : at + p.len ≤ total = leb_yes c.0 in
    let (x, y) = slots_cut total (at + p.len) ps store c.1 h in
    (ap₂ (λ u v. u ∷ v) (ap (λ m. take p.len (drop m store)) s) (x ∙ ap (split (map (λ p. p.len) ps)) (sym (drop-drop p.len at store))), rw (le-ltb (length store) (p.start + p.len) (omega arith)) y)

-- ---- over tables that hold together

record Held (t : Tables) (n : Counts) (r : Reading) : Type 0 where
  long : Enough (length t.names) (length t.categories) (length t.definitions) (length t.ranges) (length t.references) n
  slots : T (name_slots_stand n.bytes 0 (name_slots_in t n))
  single : T (once r.names)
  is : decoded t n ≡ r

held : (t : Tables) (n : Counts) (r : Reading) → handed_in t n ≡ some r → Held t n r
unfolding handed_in holds decoded
held t n r e = go (holds t n) refl e
  where
    go : (b : Bool) → holds t n ≡ b → cond b (some (decoded t n)) none ≡ some r → Held t n r
    go false d e = zero_one (cc)
    go true d e =
        let q : decoded t n ≡ r = cc in
        let h0 = and_yes (enough (length t.names) (length t.categories) (length t.definitions) (length t.ranges) (length t.references) n) _ (true→T (holds t n) d) in
        let h1 = and_yes (name_slots_stand n.bytes 0 (name_slots_in t n)) _ h0.1 in
        let h2 = and_yes (all flagged (pieces definition_size n.definitions t.definitions)) _ h1.1 in
        let h3 = and_yes (slots_stand n.references 0 (slots_in t n)) _ h2.1 in
        let h4 = and_yes (all (λ c. ltb c n.categories) (numbers_in t n)) _ h3.1 in
        let h5 = and_yes (all formed (names_in t n)) (once (names_in t n)) h4.1 in
        record { long = says _ _ _ _ _ n h0.0; slots = h1.0; single = subst (λ s. T (once s.names)) q h5.1; is = q }

module _ (t : Tables) (n : Counts) (r : Reading) (e : handed_in t n ≡ some r) where
  h : Held t n r
  h = held t n r e

  cut : (map (name_in t.names) (name_slots_of t.categories n.categories) ≡ split (map (λ p. p.len) (name_slots_of t.categories n.categories)) t.names) × (any (past_store t.names) (name_slots_of t.categories n.categories) ≡ false)
  unfolding name_slots_in
  cut = slots_cut n.bytes 0 (name_slots_of t.categories n.categories) t.names h.slots h.long.for_names

  names_cut : map (name_in t.names) (name_slots_of t.categories n.categories) ≡ r.names
  unfolding decoded names_in name_slots_in
  names_cut = cut.0 ∙ ap (λ s. s.names) h.is

  -- the lowest number with that name in the reading, or absent
  pub name_found : (name : List ℕ) → find_name t.names t.categories n.categories name ≡ gives (lowest_named name r.names)
  unfolding find_name
  name_found name =
      rw (le-ltb (length t.categories) (name_slot_size * n.categories) h.long.for_categories, cut.1)
      (ap (λ ns. gives (lowest_named name ns)) names_cut)

  -- each name's own number
  pub name_back : (k : ℕ) → k < length r.names → find_name t.names t.categories n.categories (get_or r.names k []) ≡ gives (some k)
  name_back k i = name_found (get_or r.names k []) ∙ ap gives (once_lowest [] r.names k h.single i)

  -- the name with a number
  pub number_name : (k : ℕ) → name_of t.names (category_name t.names t.categories n.categories k) ≡ name_at r k
  unfolding category_name
  number_name k = go (leb n.categories k) refl ∙ ap (λ ns. number_of ns k) names_cut
    where
      go : (b : Bool) → leb n.categories k ≡ b
          → name_of t.names (category_name t.names t.categories n.categories k) ≡ number_of (map (name_in t.names) (name_slots_of t.categories n.categories)) k
      go true d =
          let i : n.categories ≤ k = leb-true n.categories k d in
          let j : length (name_slots_of t.categories n.categories) ≤ k = rw (length-map (pieces name_slot_size n.categories t.categories) name_slot_of, pieces_length name_slot_size n.categories t.categories) i in
          rw d (sym (named_number t.names (name_slots_of t.categories n.categories) k ∙ ap (name_of t.names) (number_past (name_slots_of t.categories n.categories) k j)))
      go false d =
          let i : k < n.categories = leb-false n.categories k d in
          let j : name_slot_size * suc k ≤ length t.categories = omega (arith, h.long.for_categories) in
          rw (d, le-ltb (length t.categories) (name_slot_size * suc k) j, entry_test name_slot_of name_slot_size (past_store t.names) n.categories t.categories k i cut.1)
          (sym (named_number t.names (name_slots_of t.categories n.categories) k ∙ ap (name_of t.names) (entry_number name_slot_of name_slot_size n.categories t.categories k i)))

  -- the definition with a number
  pub number_definition : (k : ℕ) → lookup_definition t.definitions n.definitions k ≡ definition_at r k
  unfolding lookup_definition decoded
  number_definition k = go (leb n.definitions k) refl ∙ ap (λ s. number_of s.definitions k) h.is
    where
      go : (b : Bool) → leb n.definitions k ≡ b
          → lookup_definition t.definitions n.definitions k ≡ number_of (map definition_of (pieces definition_size n.definitions t.definitions)) k
      go true d =
          let i : n.definitions ≤ k = leb-true n.definitions k d in
          let j : length (map definition_of (pieces definition_size n.definitions t.definitions)) ≤ k = rw (length-map (pieces definition_size n.definitions t.definitions) definition_of, pieces_length definition_size n.definitions t.definitions) i in
          rw d (sym (number_past (map definition_of (pieces definition_size n.definitions t.definitions)) k j))
      go false d =
          let i : k < n.definitions = leb-false n.definitions k d in
          let j : definition_size * suc k ≤ length t.definitions = omega (arith, h.long.for_definitions) in
          rw (d, le-ltb (length t.definitions) (definition_size * suc k) j) (sym (entry_number definition_of definition_size n.definitions t.definitions k i))
