-- Finding a name over tables handed in is the paper's `find_name` in each case; two answers that it allows coincide; and over tables in which
-- a reading stands it gives the name's number there.
-- Assumes nothing.
use Prim.Native.Nat.{ℕ, ◌*◌, ◌≤◌, ◌<◌}
use mathlib.Core.Path.{◌≡◌, refl, sym, ap, ap₂, ◌∙◌}
use mathlib.Core.Bool.{Bool, true, false, not}
use mathlib.Core.List.{List, [], map}
use mathlib.Core.Option.{none, some}
use lib.ListN.{length, get_or}
use borrow.Author.Tests.{lt-ltb, le-ltb, not-true, not-false}
use Rattle.paper.specs.Refusals.{tables_apart}
use Rattle.paper.specs.Lists.{any}
use Rattle.paper.specs.CharDef.Reading.{Reading}
use Rattle.paper.specs.Rows.Lookup.{gives, refuses}
use Rattle.paper.specs.Tables.Layout.{name_slot_size}
use Rattle.paper.specs.Rows.Numbers.{name_slots_of, name_in, past_store, lowest_named, find_name}
use Rattle.paper.specs.Tables.Layout.{Tables}
use Rattle.paper.specs.Tables.HandedIn.{HoldTogether, OfBytes}
use Rattle.paper.specs.declared.Counts.{Counts}
use Rattle.paper.proofs.Rows.Numbers.{name_found, name_back}
use Rattle.paper.proofs.Tables.Holds.{handed_exactly}
use Rattle.seek.specs.Finds.{Finds}
use Rattle.by_name.specs.Lookup.{said, place_of, FindsCategory}
use Rattle.std.specs.Prelude.{Err, None, Ok, Option, Result, Some}
use Rattle.paper.specs.declared.Refusal.{Refusal}

-- ---- the cases of `find_category`

module _ (store table : List ℕ) (count : ℕ) (name : List ℕ) where
  pub table_short : length table < name_slot_size * count → refuses tables_apart ≡ find_name store table count name
  unfolding find_name
  table_short h = rw (lt-ltb (length table) (name_slot_size * count) h)

  module _ (long : name_slot_size * count ≤ length table) where
    pub name_past : any (past_store store) (name_slots_of table count) ≡ true → refuses tables_apart ≡ find_name store table count name
    unfolding find_name
    name_past e = rw (le-ltb (length table) (name_slot_size * count) long, e)

    module _ (e : any (past_store store) (name_slots_of table count) ≡ false) where
      name_there : (i : ℕ) → Finds (map (name_in store) (name_slots_of table count)) name (Some i) → gives (some i) ≡ find_name store table count name
      unfolding find_name lowest_named
      name_there i (h, p) = rw (le-ltb (length table) (name_slot_size * count) long, e, h) (ap (λ k. gives (some k)) p)

      name_absent : Finds (map (name_in store) (name_slots_of table count)) name None → gives none ≡ find_name store table count name
      unfolding find_name lowest_named
      name_absent h = rw (le-ltb (length table) (name_slot_size * count) long, e, h)

      pub name_sought : (r : Option ℕ) → Finds (map (name_in store) (name_slots_of table count)) name r → FindsCategory store table count name (Ok r)
      name_sought (Some i) f = record { answer = name_there i f; place = refl }
      name_sought None f = record { answer = name_absent f; place = refl }

-- what the answer of `names_inside` says
pub some_past : (r b : Bool) → r ≡ not b → not r ≡ true → b ≡ true
some_past r b e h = not-false b (sym e ∙ not-true r h)

pub none_past : (r b : Bool) → r ≡ not b → not r ≡ false → b ≡ false
none_past r b e h = not-true b (sym e ∙ not-false r h)

-- ---- nothing is left open

said_one : (r s : Result (Option ℕ) Refusal) → said r ≡ said s → place_of r ≡ place_of s → r ≡ s
said_one (Ok (Some i)) (Ok (Some j)) e p = cc
said_one (Ok (Some i)) (Ok None) e p = cc
said_one (Ok (Some i)) (Err b) e p = cc
said_one (Ok None) (Ok (Some j)) e p = cc
said_one (Ok None) (Ok None) e p = cc
said_one (Ok None) (Err b) e p = cc
said_one (Err a) (Ok (Some j)) e p = cc
said_one (Err a) (Ok None) e p = cc
said_one (Err a) (Err b) e p =
    let n : a.number ≡ b.number = cc in
    ap₂ (λ k m. Err (record { number = k; place = m })) n p

module _ (store table : List ℕ) (count : ℕ) (name : List ℕ) (r : Result (Option ℕ) Refusal) (f : FindsCategory store table count name r) where
  pub finds_one : (s : Result (Option ℕ) Refusal) → FindsCategory store table count name s → r ≡ s
  finds_one s g = said_one r s (f.answer ∙ sym g.answer) (f.place ∙ sym g.place)

-- ---- over tables in which a reading stands

module _ (t : Tables) (n : Counts) (r : Reading) (b : OfBytes t) (h : HoldTogether t n r) where
  -- never 26; the lowestNamed number with that name in the reading, or absent
  pub finds_held : (name : List ℕ) (a : Result (Option ℕ) Refusal) → FindsCategory t.names t.categories n.categories name a → said a ≡ gives (lowest_named name r.names)
  finds_held name a f = f.answer ∙ name_found t n r ((handed_exactly t n r b).1 h) name

  -- each name's own number
  pub finds_number : (k : ℕ) → k < length r.names → (a : Result (Option ℕ) Refusal)
      → FindsCategory t.names t.categories n.categories (get_or r.names k []) a → a ≡ Ok (Some k)
  finds_number k lt a f =
      said_one a (Ok (Some k)) (f.answer ∙ name_back t n r ((handed_exactly t n r b).1 h) k lt) f.place
