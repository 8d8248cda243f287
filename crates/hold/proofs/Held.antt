-- The test of refusal 26 as a record, so that a single one of its tests refuses it.
-- Assumes nothing.
use mathlib.Core.Path.{◌≡◌, sym}
use mathlib.Core.Bool.{true, false}
use lib.Dec.{T, ltb}
use lib.ListN.{length}
use mir.Facts.{and_yes, yes_and}
use Rattle.paper.specs.Lists.{all}
use Rattle.paper.specs.Computed.HandedIn.{enough, name_slots_stand, slots_stand, flagged, name_slots_in, names_in, slots_in, numbers_in, holds}
use Rattle.paper.specs.Computed.Rules.{formed}
use Rattle.paper.specs.Pack.Rules.{once}
use Rattle.paper.specs.Tables.Layout.{Tables, pieces}
use Rattle.paper.specs.declared.Counts.{Counts}
use Rattle.paper.proofs.Lists.Facts.{T→true}
use Rattle.paper.proofs.Tables.Trip.{says}
use Rattle.name_rules.specs.Placed.{placed_names}
use Rattle.name_rules.proofs.Placed.{placed_are}
use Rattle.table_rules.proofs.Tests.{refused}

pub record Held (t : Tables) (n : Counts) : Type 0 where
  pub long : T (enough (length t.names) (length t.categories) (length t.definitions) (length t.ranges) (length t.references) n)
  pub names_stand : T (name_slots_stand n.bytes 0 (name_slots_in t n))
  pub flags : T (all flagged (pieces 6 n.definitions t.definitions))
  pub ranges_stand : T (slots_stand n.references 0 (slots_in t n))
  pub known : T (all (λ c. ltb c n.categories) (numbers_in t n))
  pub names_formed : T (all formed (names_in t n))
  pub names_once : T (once (names_in t n))

held : (t : Tables) (n : Counts) → T (holds t n) → Held t n
unfolding holds
held t n h =
    let a = and_yes (enough (length t.names) (length t.categories) (length t.definitions) (length t.ranges) (length t.references) n) _ h in
    let b = and_yes (name_slots_stand n.bytes 0 (name_slots_in t n)) _ a.1 in
    let c = and_yes (all flagged (pieces 6 n.definitions t.definitions)) _ b.1 in
    let d = and_yes (slots_stand n.references 0 (slots_in t n)) _ c.1 in
    let e = and_yes (all (λ c. ltb c n.categories) (numbers_in t n)) _ d.1 in
    let f = and_yes (all formed (names_in t n)) (once (names_in t n)) e.1 in
    record { long = a.0; names_stand = b.0; flags = c.0; ranges_stand = d.0; known = e.0; names_formed = f.0; names_once = f.1 }

pub not_held : (t : Tables) (n : Counts) → (Held t n → ⊥) → false ≡ holds t n
not_held t n f = refused (holds t n) (λ h. f (held t n h))

pub is_held : (t : Tables) (n : Counts) → Held t n → true ≡ holds t n
unfolding holds
is_held t n h =
    sym (T→true _
    (yes_and (enough (length t.names) (length t.categories) (length t.definitions) (length t.ranges) (length t.references) n) _ h.long
    (yes_and (name_slots_stand n.bytes 0 (name_slots_in t n)) _ h.names_stand
    (yes_and (all flagged (pieces 6 n.definitions t.definitions)) _ h.flags
    (yes_and (slots_stand n.references 0 (slots_in t n)) _ h.ranges_stand
    (yes_and (all (λ c. ltb c n.categories) (numbers_in t n)) _ h.known
    (yes_and (all formed (names_in t n)) (once (names_in t n)) h.names_formed h.names_once)))))))

-- the names where their own slots say are the paper's
pub names_are : (t : Tables) (n : Counts) → T (enough (length t.names) (length t.categories) (length t.definitions) (length t.ranges) (length t.references) n)
    → T (name_slots_stand n.bytes 0 (name_slots_in t n)) → placed_names n.categories t.categories t.names ≡ names_in t n
unfolding name_slots_in names_in
names_are t n e s = placed_are t.names t.categories n.categories n.bytes (says _ _ _ _ _ n e).for_names s
