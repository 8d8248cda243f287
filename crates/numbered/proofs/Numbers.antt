-- Definitions and names by number: what the code reads at an entry is the paper's, and which way its tests go.
-- Assumes nothing.
use Prim.Native.Nat.{ℕ, suc, ◌+◌, ◌*◌, ◌≤◌, ◌<◌}
use native.Mathlib.Omega.{arith}
use mathlib.Core.Path.{◌≡◌, refl, sym, ap, ap₂, ◌∙◌}
use mathlib.Core.Bool.{Bool, true, false, cond, ◌||◌}
use mathlib.Core.List.{List}
use lib.Dec.{leb, ltb, eqb}
use lib.ListN.{length, get_or, drop}
use lib.Seq.{get_or-take, get_or-drop}
use borrow.Author.Tests.{lt-leb, lt-ltb, le-ltb, ltb-false}
use Rattle.paper.specs.Refusals.{number_unknown, tables_apart}
use Rattle.paper.specs.Rows.Lookup.{gives, refuses}
use Rattle.paper.specs.Rows.Numbers.{past_store, entry_at, lookup_definition, category_name}
use Rattle.paper.specs.Tables.Layout.{NameSlot, name_slot_of, name_slot_size, definition_size, name_len_at, invoke_at, group_at}
use Rattle.paper.specs.Tables.Lent.{got, num}
use Rattle.paper.proofs.Apart.{zero_one}
use Rattle.paper.proofs.Tables.Laws.{got_in, num_part}
use Rattle.packed.specs.declared.Span.{Span}
use Rattle.numbered.specs.Numbers.{definition, name}
use Rattle.std.specs.Prelude.{Err, Ok}

-- ---- fields of an entry, as the code reads them

module _ (w k : ℕ) (l : List ℕ) (long : w * k + w ≤ length l) where
  number_at : (v at : ℕ) → at + v ≤ w → got v (w * k + at) l ≡ num v at (entry_at w l k)
  number_at v at h = got_in v (w * k + at) l (omega arith) ∙ sym (num_part v at w (w * k) l h)

  first_at : (v : ℕ) → v ≤ w → got v (w * k) l ≡ num v 0 (entry_at w l k)
  first_at v h = let e : w * k ≡ w * k + 0 = omega arith in ap (λ m. got v m l) e ∙ number_at v 0 (omega arith)

  byte_at : (at : ℕ) → at < w → get_or l (w * k + at) 0 ≡ get_or (entry_at w l k) at 0
  byte_at at h = sym (get_or-take w (drop (w * k) l) at 0 h ∙ get_or-drop (w * k) l at 0)

-- ---- definitions

module _ (l : List ℕ) (count k : ℕ) where
  module _ (known : k < count) where
    pub definition_there : definition_size * suc k ≤ length l → (a b : Bool) (n : ℕ)
        → a ≡ eqb (get_or l (definition_size * k + invoke_at) 0) 1 → b ≡ eqb (get_or l (definition_size * k + group_at) 0) 1 → n ≡ got 4 (definition_size * k) l
        → Ok (record { invoke = a; group = b; length = n }) ≡ definition (lookup_definition l count k)
    unfolding lookup_definition
    definition_there h a b n ea eb en =
        let long : definition_size * k + definition_size ≤ length l = omega arith in
        let fa = ea ∙ ap (λ x. eqb x 1) (byte_at definition_size k l long invoke_at (omega arith)) in
        let fb = eb ∙ ap (λ x. eqb x 1) (byte_at definition_size k l long group_at (omega arith)) in
        let fn = en ∙ first_at definition_size k l long 4 (omega arith) in
        rw (lt-leb count k known, le-ltb (length l) (definition_size * suc k) h, fa, fb, fn)

-- ---- names

module _ (store l : List ℕ) (count k : ℕ) where
  module _ (known : k < count) where
    module _ (h : name_slot_size * suc k ≤ length l) (start len : ℕ)
        (es : start ≡ got 2 (name_slot_size * k) l) (el : len ≡ got 2 (name_slot_size * k + name_len_at) l) where
      slot_is : name_slot_of (entry_at name_slot_size l k) ≡ record { start = start; len = len }
      slot_is =
          let long : name_slot_size * k + name_slot_size ≤ length l = omega arith in
          sym (ap₂ (λ a b. record { start = a; len = b }) (es ∙ first_at name_slot_size k l long 2 (omega arith))
          (el ∙ number_at name_slot_size k l long 2 name_len_at (omega arith)))

      pub name_past : length store < start + len → Err (record { number = tables_apart; place = 0 }) ≡ name (category_name store l count k)
      unfolding category_name
      name_past p =
          rw (lt-leb count k known, le-ltb (length l) (name_slot_size * suc k) h)
          (sym (ap (λ q. name (cond (past_store store q) (refuses tables_apart) (gives q))) slot_is ∙ rw (lt-ltb (length store) (start + len) p)))

      pub name_there : start + len ≤ length store → Ok (record { start = start; len = len }) ≡ name (category_name store l count k)
      unfolding category_name
      name_there p =
          rw (lt-leb count k known, le-ltb (length l) (name_slot_size * suc k) h)
          (sym (ap (λ q. name (cond (past_store store q) (refuses tables_apart) (gives q))) slot_is ∙ rw (le-ltb (length store) (start + len) p)))

-- a name that is there lies in the store
pub name_inside : (store l : List ℕ) (count k : ℕ) (s : Span) → Ok s ≡ name (category_name store l count k) → s.start + s.len ≤ length store
unfolding category_name
name_inside store l count k s e = go (leb count k) (ltb (length l) (name_slot_size * suc k)) (past_store store (name_slot_of (entry_at name_slot_size l k))) refl e
  where
    slot : NameSlot
    slot = name_slot_of (entry_at name_slot_size l k)

    go : (a b p : Bool) → past_store store slot ≡ p
        → Ok s ≡ name (cond a (refuses number_unknown) (cond (b || p) (refuses tables_apart) (gives slot))) → s.start + s.len ≤ length store
    go true b p d e = zero_one (cc)
    go false true p d e = zero_one (cc)
    go false false true d e = zero_one (cc)
    go false false false d e =
        let f : s ≡ record { start = slot.start; len = slot.len } = cc in
        let g : slot.start + slot.len ≤ length store = ltb-false (length store) (slot.start + slot.len) d in
        rw f g
