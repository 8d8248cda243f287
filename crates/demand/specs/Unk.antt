-- unk.def, under demands 1 and 3's words: "accepted exactly when" its lines fit, one answer fits, and the tables hold it; what the lookups of `word` find
-- in those tables. `UnkFits` of paper specs/Unk/Entry is the grammar and the limits.
-- Assumes nothing.
use Rattle.std.specs.Prelude.{ℕ, ◌≤◌, ◌≡◌, ◌↔◌, true, cond, List, length, Err, Ok, Result}
use Rattle.std.proofs.Math.Option.{some, map}
use Rattle.std.proofs.Math.ListN.{get_elem?}
use Rattle.paper.specs.Refusals.{number_unknown}
use Rattle.paper.specs.CharDef.Reading.{Reading}
use Rattle.paper.specs.Unk.Entry.{Unk, UnkFits, entries_of, word_of, details_of, CategoryEntries}
use Rattle.paper.specs.Unk.Bad.{UnkRefused}
use Rattle.paper.specs.Tables.Layout.{Tables}
use Rattle.paper.specs.Tables.Reader.{clears}
use Rattle.paper.specs.declared.Counts.{Counts}
use Rattle.paper.specs.declared.Refusal.{Refusal}
use Rattle.unk.specs.Layout.{UnkTables, layout}
use Rattle.unk.specs.Parse.{has_room, counts_of, in_room, past, behind, cleared, ParsesUnk}
use Rattle.unk_enter.specs.declared.UnkCounts.{UnkCounts}
use Rattle.word.specs.Words.{word_ids_in, word_entry_in, word_details_in, found, entry, held}
use Rattle.word.specs.Left.{id_bytes, as_word}

-- `parse_unk` ran on a text, over a reading's tables and room of the sizes
pub record RunUnk (t : Tables) (n : Counts) (text : List ℕ) : Type 0 where
  pub lent : UnkTables
  pub room : has_room lent ≡ true
  pub left : UnkTables
  pub outcome : Result UnkCounts Refusal
  pub promised : ParsesUnk t n text lent left outcome

-- q is the reading that stands in the tables
pub record ReadsUnk (q : Reading) {t : Tables} {n : Counts} (text : List ℕ) (run : RunUnk t n text) : Type 0 where
  pub accepted_exactly : (c : UnkCounts) → (run.outcome ≡ Ok c) ↔ ((u : Unk) × UnkFits q.names text u × (c ≡ counts_of u))
  pub one_answer : (u v : Unk) → UnkFits q.names text u → UnkFits q.names text v → u ≡ v
  pub in_the_tables : (u : Unk) → UnkFits q.names text u → run.left ≡ behind (in_room (layout u)) (past run.lent)
  -- refused exactly with the number and the place of what is wrong, 2, 3, or 23 to 25 with the first bad line; and what that leaves
  pub refused_exactly : (x : Refusal) → (run.outcome ≡ Err x) ↔ UnkRefused text x.number x.place
  pub after_refusal : (x : Refusal) → run.outcome ≡ Err x → run.left ≡ cond (clears x.number) (cleared run.lent) run.lent
  -- "A category's entries are those whose first field equals its name, ascending"
  pub category_list : (u : Unk) (f : UnkFits q.names text u) (c : ℕ) (ks : List ℕ)
      → (entries_of u c ≡ some ks) ↔ ((name : List ℕ) × (get_elem? q.names c ≡ some name) × CategoryEntries name f.entries ks)
  -- what is found by an entry's number is what that line says
  pub entry_list : (u : Unk) (f : UnkFits q.names text u) (k : ℕ) → word_of u k ≡ map (λ e. (e.left, e.right, e.cost)) (get_elem? f.entries k)
  pub details_list : (u : Unk) (f : UnkFits q.names text u) (k : ℕ) → details_of u k ≡ map (λ e. e.details) (get_elem? f.entries k)

-- lookups over the tables of an accepted text: u is what it says over the names of q, `categories` and `entries` are the counts that the readers answered
pub record FindsWords (q : Reading) (u : Unk) (t : UnkTables) (categories entries : ℕ) : Type 0 where
  -- `lookup_word_ids` returns the numbers of a category's entries, two bytes each
  pub ids_held : (c : ℕ) (ks : List ℕ) → entries_of u c ≡ some ks → held t.members (word_ids_in t.places t.members categories c) ≡ id_bytes ks
  -- `locate_word_ids` refuses by 15 exactly past the categories, and by nothing else, so never by 26; and so the two below past the entries
  pub ids_refused : (c : ℕ) (x : Refusal)
      → (found (word_ids_in t.places t.members categories c) ≡ Err x) ↔ ((length q.names ≤ c) × (x ≡ record { number = number_unknown; place = 0 }))
  -- `word_entry` answers left, right and cost
  pub word_held : (k : ℕ) (w : ℕ × ℕ × ℕ) → word_of u k ≡ some w → entry (word_entry_in t.entries entries k) ≡ Ok (as_word w)
  pub word_refused : (k : ℕ) (x : Refusal)
      → (entry (word_entry_in t.entries entries k) ≡ Err x) ↔ ((length u.word_entries ≤ k) × (x ≡ record { number = number_unknown; place = 0 }))
  -- `word_details` returns the joined details; `locate_details` refuses
  pub details_held : (k : ℕ) (l : List ℕ) → details_of u k ≡ some l → held t.details (word_details_in t.offsets t.details entries k) ≡ l
  pub details_refused : (k : ℕ) (x : Refusal)
      → (found (word_details_in t.offsets t.details entries k) ≡ Err x)
      ↔ ((length u.word_entries ≤ k) × (x ≡ record { number = number_unknown; place = 0 }))
