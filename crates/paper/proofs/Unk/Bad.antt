-- A bad line of unk.def: the reader gives it the number that the table's words give it, and they give one at most.
-- The fields that a relation speaks of are those that `cut` finds, so what is wrong with a line is read off them.
-- Assumes nothing.
use Prim.Native.Nat.{ℕ, suc, ◌<◌, ◌≤◌}
use native.Mathlib.Omega.{arith}
use mathlib.Core.Path.{◌≡◌, refl, sym, ap, ◌∙◌, subst}
use mathlib.Core.Logic.{◌⊎◌, inl, inr, ◌↔◌}
use mathlib.Core.Bool.{Bool, true, false, not}
use mathlib.Core.Option.{Option, none, some}
use mathlib.Core.List.{List, [], ◌∷◌}
use lib.Dec.{T, ltb, lit≤}
use lib.ListN.{length}
use borrow.Author.Tests.{ltb-true, ltb-false, lt-ltb}
use Rattle.paper.specs.Sizes.{max_unk_entries, max_u32, max_i32, low_i32}
use Rattle.paper.specs.Refusals.{unk_fields, unk_number, unk_entries_full}
use Rattle.paper.specs.Lists.{empty, all, cut, is, without, join_with}
use Rattle.paper.specs.Text.Scalar.{comma}
use Rattle.paper.specs.Numbers.Numeral.{Integer, decimal, NoU32, NoI32}
use Rattle.paper.specs.Unk.Entry.{Entry, UnkLine}
use Rattle.paper.specs.Unk.Bad.{UnderFour, Unreadable, BadUnkLine, fields_short, number_unreadable, entries_full}
use Rattle.paper.specs.Computed.Numeral.{numeral, signed_numeral}
use Rattle.paper.specs.Computed.ReadUnk.{UnkFound, entry, no_entry, from_unk_numbers, from_fields, unk_line_of, Entries, entries_are, stops, cons_entry, or_full, enter_unk, read_entries}
use Rattle.paper.proofs.Apart.{stops_entries}
use Rattle.paper.proofs.Lists.Pieces.{cut_pieces}
use Rattle.paper.proofs.Numbers.Read.{decimal_small}
use Rattle.paper.proofs.Numbers.Laws.{unsigned_none, signed_none}
use Rattle.paper.proofs.Unk.Lines.{cut_join_with, pieces_join_with}
use Rattle.paper.proofs.Unk.Line.{no_entry_entry, unk_line}

-- ---- a line by itself

same_number : {m n : ℕ} → no_entry m ≡ no_entry n → m ≡ n
same_number h = cc

numbers_bad : (cs a b c d : List ℕ) (ds : List (List ℕ)) (before n : ℕ) → cs ≡ join_with comma (a ∷ b ∷ c ∷ d ∷ ds) → T (all (without comma) (a ∷ b ∷ c ∷ d ∷ ds))
    → (x : Option ℕ) → numeral decimal max_u32 b ≡ x → (y : Option ℕ) → numeral decimal max_u32 c ≡ y
    → (z : Option Integer) → signed_numeral decimal max_i32 low_i32 d ≡ z → from_unk_numbers a x y z ds ≡ no_entry n → BadUnkLine before cs n
numbers_bad cs a b c d ds before n w p x ex y ey z ez h = go x ex y ey z ez h
  where
    bad : NoU32 b ⊎ (NoU32 c ⊎ NoI32 d) → no_entry unk_number ≡ no_entry n → BadUnkLine before cs n
    bad o h =
        subst (BadUnkLine before cs) (same_number h)
        (number_unreadable (record { category = a; left = b; right = c; cost = d; more = ds; whole = w; parted = p; one_at_least = o }))

    go : (x : Option ℕ) → numeral decimal max_u32 b ≡ x → (y : Option ℕ) → numeral decimal max_u32 c ≡ y
        → (z : Option Integer) → signed_numeral decimal max_i32 low_i32 d ≡ z → from_unk_numbers a x y z ds ≡ no_entry n → BadUnkLine before cs n
    go none ex y ey z ez h = bad (inl ((unsigned_none decimal max_u32 decimal_small b).0 ex)) h
    go (some l) ex none ey z ez h = bad (inr (inl ((unsigned_none decimal max_u32 decimal_small c).0 ey))) h
    go (some l) ex (some r) ey none ez h = bad (inr (inr ((signed_none decimal max_i32 low_i32 decimal_small d).0 ez))) h
    go (some l) ex (some r) ey (some i) ez h = no_entry_entry (sym h)

no_entry_bad : (cs : List ℕ) (before n : ℕ) → unk_line_of cs ≡ no_entry n → BadUnkLine before cs n
unfolding unk_line_of from_fields
no_entry_bad cs before n h = let (w, s, p) = pieces_join_with comma (cut_pieces (is comma) cs) in go (cut (is comma) cs) w s p h
  where
    short : (first : List ℕ) (more : List (List ℕ)) → cs ≡ join_with comma (first ∷ more) → T (all (without comma) (first ∷ more)) → length (first ∷ more) < 4
        → no_entry unk_fields ≡ no_entry n → BadUnkLine before cs n
    short first more w p few h =
        subst (BadUnkLine before cs) (same_number h)
        (fields_short (record { first = first; more = more; whole = w; parted = p; few = few }))

    go : (fs : List (List ℕ)) → cs ≡ join_with comma fs → T (not (empty fs)) → T (all (without comma) fs) → from_fields fs ≡ no_entry n → BadUnkLine before cs n
    go [] w s p h = absurd s
    go (a ∷ []) w s p h = short a [] w p (lit≤ tt) h
    go (a ∷ b ∷ []) w s p h = short a (b ∷ []) w p (lit≤ tt) h
    go (a ∷ b ∷ c ∷ []) w s p h = short a (b ∷ c ∷ []) w p (lit≤ tt) h
    go (a ∷ b ∷ c ∷ d ∷ ds) w s p h =
        numbers_bad cs a b c d ds before n w p (numeral decimal max_u32 b) refl (numeral decimal max_u32 c) refl (signed_numeral decimal max_i32 low_i32 d) refl h

under_four_read : (cs : List ℕ) → UnderFour cs → unk_line_of cs ≡ no_entry unk_fields
unfolding unk_line_of from_fields
under_four_read cs u =
    ap (λ x. from_fields (cut (is comma) x)) u.whole
    ∙ ap from_fields (cut_join_with comma (u.first ∷ u.more) tt u.parted)
    ∙ go u.more u.few
  where
    go : (more : List (List ℕ)) → suc (length more) < 4 → from_fields (u.first ∷ more) ≡ no_entry unk_fields
    go [] few = refl
    go (b ∷ []) few = refl
    go (b ∷ c ∷ []) few = refl
    go (b ∷ c ∷ d ∷ ds) few = absurd (omega arith)

unreadable_read : (cs : List ℕ) → Unreadable cs → unk_line_of cs ≡ no_entry unk_number
unfolding unk_line_of from_fields
unreadable_read cs u =
    ap (λ x. from_fields (cut (is comma) x)) u.whole
    ∙ ap from_fields (cut_join_with comma (u.category ∷ u.left ∷ u.right ∷ u.cost ∷ u.more) tt u.parted)
    ∙ go u.one_at_least
  where
    left_none : (y : Option ℕ) (z : Option Integer) → from_unk_numbers u.category none y z u.more ≡ no_entry unk_number
    left_none y z = refl

    right_none : (x : Option ℕ) (z : Option Integer) → from_unk_numbers u.category x none z u.more ≡ no_entry unk_number
    right_none none z = refl
    right_none (some l) z = refl

    cost_none : (x y : Option ℕ) → from_unk_numbers u.category x y none u.more ≡ no_entry unk_number
    cost_none none y = refl
    cost_none (some l) none = refl
    cost_none (some l) (some r) = refl

    x : Option ℕ
    x = numeral decimal max_u32 u.left

    y : Option ℕ
    y = numeral decimal max_u32 u.right

    z : Option Integer
    z = signed_numeral decimal max_i32 low_i32 u.cost

    go : NoU32 u.left ⊎ (NoU32 u.right ⊎ NoI32 u.cost) → from_unk_numbers u.category x y z u.more ≡ no_entry unk_number
    go (inl never) = ap (λ o. from_unk_numbers u.category o y z u.more) ((unsigned_none decimal max_u32 decimal_small u.left).1 never) ∙ left_none y z
    go (inr (inl never)) = ap (λ o. from_unk_numbers u.category x o z u.more) ((unsigned_none decimal max_u32 decimal_small u.right).1 never) ∙ right_none x z
    go (inr (inr never)) = ap (λ o. from_unk_numbers u.category x y o u.more) ((signed_none decimal max_i32 low_i32 decimal_small u.cost).1 never) ∙ cost_none x y

-- ---- a line behind others

-- the number that the reader gives to a line if it gives any: 25 to one that says an entry
abbrev given : UnkFound → ℕ
given (no_entry n) = n
given (entry e) = unk_entries_full

bad_given : {before : ℕ} {cs : List ℕ} {n : ℕ} → BadUnkLine before cs n → given (unk_line_of cs) ≡ n
bad_given {cs = cs} (fields_short u) = ap given (under_four_read cs u)
bad_given {cs = cs} (number_unreadable u) = ap given (unreadable_read cs u)
bad_given {cs = cs} (entries_full {e = e} u full) = ap given ((unk_line cs e).1 u)

-- at most one thing is wrong with a line
pub unk_bad_line_one : {before : ℕ} {cs : List ℕ} {m n : ℕ} → BadUnkLine before cs m → BadUnkLine before cs n → m ≡ n
unk_bad_line_one a b = sym (bad_given a) ∙ bad_given b

pub stops_same : {m n j k : ℕ} → stops m j ≡ stops n k → (m ≡ n) × (j ≡ k)
stops_same h = (cc, cc)

-- a bad line stops the reader, whatever stands behind it
pub bad_stops : {before : ℕ} {cs : List ℕ} {n : ℕ} (post : List (List ℕ)) → BadUnkLine before cs n → read_entries (suc before) (cs ∷ post) ≡ stops n (suc before)
unfolding read_entries
bad_stops {cs = cs} post (fields_short u) = rw (under_four_read cs u)
bad_stops {cs = cs} post (number_unreadable u) = rw (unreadable_read cs u)
bad_stops {before = before} {cs = cs} post (entries_full {e = e} u full) =
    rw ((unk_line cs e).1 u, lt-ltb max_unk_entries (suc before) (past full))
  where
    past : before ≡ max_unk_entries → max_unk_entries < suc before
    past full = omega arith

cons_stops : (e : Entry) (o : Entries) (n place : ℕ) → cons_entry e o ≡ stops n place → o ≡ stops n place
cons_stops e (entries_are es) n place h = stops_entries (sym h)
cons_stops e (stops m p) n place h = h

-- where the reader stops at a line or behind it: the line is bad, or it is an entry that has its place
pub line_view : (before : ℕ) (cs : List ℕ) (behind : ℕ → Entries) (n place : ℕ) → before ≤ max_unk_entries → enter_unk (suc before) (unk_line_of cs) behind ≡ stops n place
    → ((place ≡ suc before) × BadUnkLine before cs n) ⊎ ((e : Entry) × UnkLine cs e × (before < max_unk_entries) × (behind (suc (suc before)) ≡ stops n place))
line_view before cs behind n place most h = found_case (unk_line_of cs) refl h
  where
    Goal : Type 0
    Goal = ((place ≡ suc before) × BadUnkLine before cs n) ⊎ ((e : Entry) × UnkLine cs e × (before < max_unk_entries) × (behind (suc (suc before)) ≡ stops n place))

    room_case : (e : Entry) → UnkLine cs e → (b : Bool) → ltb max_unk_entries (suc before) ≡ b → or_full b (suc before) e behind ≡ stops n place → Goal
    room_case e u true eb h =
        let past : max_unk_entries < suc before = ltb-true max_unk_entries (suc before) eb in
        let (en, ep) = stops_same h in
        inl (sym ep, subst (BadUnkLine before cs) en (entries_full u (omega arith)))
    room_case e u false eb h = inr (e, u, ltb-false max_unk_entries (suc before) eb, cons_stops e (behind (suc (suc before))) n place h)

    found_case : (o : UnkFound) → unk_line_of cs ≡ o → enter_unk (suc before) o behind ≡ stops n place → Goal
    found_case (no_entry m) eo h = let (en, ep) = stops_same h in inl (sym ep, no_entry_bad cs before n (eo ∙ ap no_entry en))
    found_case (entry e) eo h = room_case e ((unk_line cs e).0 eo) (ltb max_unk_entries (suc before)) refl h

-- the reader gives a line the number n exactly where n is what is wrong with it
pub unk_bad_line : (before : ℕ) (cs : List ℕ) (n : ℕ) → before ≤ max_unk_entries
    → (read_entries (suc before) (cs ∷ []) ≡ stops n (suc before)) ↔ BadUnkLine before cs n
unfolding read_entries
unk_bad_line before cs n most = (λ h. go (line_view before cs (λ j. read_entries j []) n (suc before) most h), bad_stops [])
  where
    go : ((suc before ≡ suc before) × BadUnkLine before cs n) ⊎ ((e : Entry) × UnkLine cs e × (before < max_unk_entries) × (entries_are [] ≡ stops n (suc before))) → BadUnkLine before cs n
    go (inl (p, b)) = b
    go (inr (e, u, room, h)) = stops_entries (sym h)
