-- What the promise of a reader says, whatever it reads: which outcome each answer of the paper is, what memory holds after it, and that nothing
-- is left open.
-- Assumes nothing.
use Prim.Native.Nat.{ℕ, ◌*◌}
use mathlib.Core.Path.{◌≡◌, refl, sym, ap, ◌∙◌}
use mathlib.Core.Logic.{◌↔◌}
use mathlib.Core.Bool.{true, false, cond}
use mathlib.Core.List.{List, ◌++◌, append_assoc}
use mathlib.Core.Option.{some}
use Rattle.paper.specs.Sizes.{max_categories, max_name_bytes, max_category_lines, max_ranges, max_references}
use Rattle.paper.specs.Refusals.{room_short}
use Rattle.paper.specs.CharDef.Reading.{Reading, Answer, accepted, refused}
use Rattle.paper.specs.Computed.HandedIn.{handed_in}
use Rattle.paper.specs.Pack.Rules.{PackRules}
use Rattle.paper.specs.Tables.Layout.{Tables, layout, in_room, behind, counts_of, FitsRoom, name_slot_size, definition_size, range_slot_size, reference_size}
use Rattle.paper.specs.Tables.Lent.{padded}
use Rattle.paper.specs.Tables.Reader.{has_room, in_lent, given, clears, past, cleared, leaves, Reads}
use Rattle.paper.specs.declared.Counts.{Counts}
use Rattle.paper.specs.declared.Refusal.{Refusal}
use Rattle.paper.proofs.Apart.{zero_one}
use Rattle.paper.proofs.Tables.Room.{zeros, padded_is, layout_fits}
use Rattle.paper.proofs.Tables.Trip.{tables_is, handed_in_lem}
use Rattle.room.proofs.Five.{past_padded, past_zero, past_either, by_test}
use Rattle.room.proofs.Sizes.{RoomIn, room_in}
use Rattle.room.proofs.Whole.{short_answer, has_answer}
use Rattle.std.specs.Prelude.{Err, Ok, Result}

-- ---- NOTHING IS LEFT OPEN: two outcomes that the promise allows coincide, in the answer and in the memory

pub reads_one : {x : Answer} {lent a b : Tables} {r s : Result Counts Refusal} → Reads x lent a r → Reads x lent b s → (r ≡ s) × (a ≡ b)
reads_one p q = (p.answer ∙ sym q.answer, p.memory ∙ sym q.memory)

-- ---- the answers, by the enum's case

accepted_is : (a : Answer) (n : Counts) → Ok n ≡ given a → (q : Reading) × (a ≡ accepted q) × (n ≡ counts_of q)
accepted_is (accepted q) n e = (q, refl, cc)
accepted_is (refused k place) n e = zero_one (cc)

refused_is : (a : Answer) (x : Refusal) → Err x ≡ given a → a ≡ refused x.number x.place
refused_is (accepted q) x e = zero_one (cc)
refused_is (refused k place) x e =
    let i : x ≡ record { number = k; place = place } = cc in
    sym (ap (λ y. refused y.number y.place) i)

-- ---- refusal 1: given where the room is short, and nothing is changed

pub short_exactly : {a : Answer} {lent after : Tables} {r : Result Counts Refusal} → Reads a lent after r → has_room lent ≡ false
    → (r ≡ Err (record { number = room_short; place = 0 })) × (after ≡ lent)
unfolding leaves clears
short_exactly {a} {lent} p e =
    let i : in_lent lent a ≡ refused room_short 0 = short_answer a lent e in
    (p.answer ∙ ap given i, p.memory ∙ ap (λ x. leaves x lent) i)

module _ {a : Answer} {lent after : Tables} {r : Result Counts Refusal} (room : has_room lent ≡ true) (p : Reads a lent after r) where
  own_answer : in_lent lent a ≡ a
  own_answer = has_answer a lent room

  pub accepted_exactly : (n : Counts) → (r ≡ Ok n) ↔ ((q : Reading) × (a ≡ accepted q) × (n ≡ counts_of q))
  accepted_exactly n =
      (λ e. accepted_is a n (sym e ∙ p.answer ∙ ap given own_answer), λ (q, i, c). p.answer ∙ ap given (own_answer ∙ i) ∙ ap Ok (sym c))

  pub refused_exactly : (x : Refusal) → (r ≡ Err x) ↔ (a ≡ refused x.number x.place)
  refused_exactly x = (λ e. refused_is a x (sym e ∙ p.answer ∙ ap given own_answer), λ i. p.answer ∙ ap given (own_answer ∙ i))

  -- the reading's tables, and what lay past the sizes
  pub holds_reading : (q : Reading) → a ≡ accepted q → after ≡ behind (in_room (layout q)) (past lent)
  unfolding leaves
  holds_reading q i = p.memory ∙ ap (λ x. leaves x lent) (own_answer ∙ i)

  pub refused_leaves : (n place : ℕ) → a ≡ refused n place → after ≡ cond (clears n) (cleared lent) lent
  unfolding leaves
  refused_leaves n place i = p.memory ∙ ap (λ x. leaves x lent) (own_answer ∙ i)

-- ---- the reading is the one in the tables

padded_behind : (n : ℕ) (l m : List ℕ) → padded n l ++ m ≡ l ++ (zeros n l ++ m)
padded_behind n l m = ap (λ p. p ++ m) (padded_is n l) ∙ append_assoc l (zeros n l) m

more : Tables → Tables → Tables
more t x =
    record {
      names = zeros max_name_bytes t.names ++ x.names;
      categories = zeros (name_slot_size * max_categories) t.categories ++ x.categories;
      definitions = zeros (definition_size * max_category_lines) t.definitions ++ x.definitions;
      ranges = zeros (range_slot_size * max_ranges) t.ranges ++ x.ranges;
      references = zeros (reference_size * max_references) t.references ++ x.references;
    }

room_behind : (t x : Tables) → behind (in_room t) x ≡ behind t (more t x)
unfolding behind in_room more
room_behind t x =
    tables_is (behind t (more t x)) _ _ _ _ _ (padded_behind max_name_bytes t.names x.names) (padded_behind (name_slot_size * max_categories) t.categories x.categories)
    (padded_behind (definition_size * max_category_lines) t.definitions x.definitions) (padded_behind (range_slot_size * max_ranges) t.ranges x.ranges)
    (padded_behind (reference_size * max_references) t.references x.references)

-- handed in, the tables and the counts of an acceptance give back the reading
pub handed_back : {a : Answer} {lent after : Tables} {r : Result Counts Refusal} → has_room lent ≡ true → Reads a lent after r
    → (q : Reading) → a ≡ accepted q → PackRules q → handed_in after (counts_of q) ≡ some q
handed_back {a} {lent} room p q i k =
    ap (λ t. handed_in t (counts_of q)) (holds_reading room p q i ∙ room_behind (layout q) (past lent)) ∙ handed_in_lem q (more (layout q) (past lent)) k

-- ---- past the sizes memory is untouched, whatever the answer

past_filled : (lent t : Tables) → FitsRoom t → past (behind (in_room t) (past lent)) ≡ past lent
unfolding past behind in_room
past_filled lent t w =
    tables_is (past lent) _ _ _ _ _ (past_padded max_name_bytes t.names (past lent).names w.names)
    (past_padded (name_slot_size * max_categories) t.categories (past lent).categories w.categories)
    (past_padded (definition_size * max_category_lines) t.definitions (past lent).definitions w.definitions)
    (past_padded (range_slot_size * max_ranges) t.ranges (past lent).ranges w.ranges)
    (past_padded (reference_size * max_references) t.references (past lent).references w.references)

past_cleared : (lent : Tables) → RoomIn lent → past (cleared lent) ≡ past lent
unfolding past cleared
past_cleared lent h =
    tables_is (past lent) _ _ _ _ _ (past_zero max_name_bytes lent.names h.first) (past_zero (name_slot_size * max_categories) lent.categories h.second)
    (past_zero (definition_size * max_category_lines) lent.definitions h.third) (past_zero (range_slot_size * max_ranges) lent.ranges h.fourth)
    (past_zero (reference_size * max_references) lent.references h.fifth)

pub past_kept : {a : Answer} {lent after : Tables} {r : Result Counts Refusal} → Reads a lent after r
    → ((q : Reading) → a ≡ accepted q → PackRules q) → past after ≡ past lent
past_kept {a} {lent} {after} {r} p k = by_test (has_room lent) (by_answer a refl) (λ e. ap past (short_exactly p e).1)
  where
    by_answer : (x : Answer) → a ≡ x → has_room lent ≡ true → past after ≡ past lent
    by_answer (accepted q) i room = ap past (holds_reading room p q i) ∙ past_filled lent (layout q) (layout_fits q (k q i).limits)
    by_answer (refused n place) i room =
        ap past (refused_leaves room p n place i) ∙ past_either past (clears n) (past_cleared lent (room_in lent (sym room)))
