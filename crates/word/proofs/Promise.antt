-- Over the tables that `parse_unk` leaves for an accepted text the lookups find what the text says: a category's entries, an entry's numbers and its
-- details; 15 exactly past the categories or the entries, and never 26. Idea: the tables begin with the paper's layout, and what was written at a
-- number is read there.
-- Assumes nothing.
use Prim.Native.Nat.{ℕ, zero, suc, ◌+◌, ◌*◌, ◌-◌, ◌≤◌, ◌<◌}
use native.Mathlib.Omega.{arith}
use mathlib.Core.Path.{◌≡◌, refl, sym, ap, ap₂, ◌∙◌, subst}
use mathlib.Core.Logic.{◌↔◌}
use mathlib.Core.List.{List, [], ◌++◌, map, append_assoc}
use mathlib.Core.Option
use mathlib.Core.Option.{Option, none, some, map-eq-none_iff}
use lib.ListN.{length, take, drop, replicate, get_elem?, length-append, length-map}
use lib.Seq.{take-append_seam, drop-drop}
use borrow.Author.Tests.{le-ltb}
use Rattle.paper.specs.Sizes.{max_unk_entries, max_detail_bytes}
use Rattle.paper.specs.Refusals.{number_unknown}
use Rattle.paper.specs.Lists.{joined, offsets_from}
use Rattle.paper.specs.Numbers.Bytes.{le, value, u16_size, u32_size}
use Rattle.paper.specs.Numbers.Numeral.{modulus16}
use Rattle.paper.specs.CharDef.Reading.{Reading}
use Rattle.paper.specs.Rows.Lookup.{Looked, gives, refuses}
use Rattle.paper.specs.Rows.Numbers.{entry_at}
use Rattle.paper.specs.Tables.Layout.{Tables, NameSlot, name_slots, name_slot_bytes, name_slot_of, name_slot_size, reference_size}
use Rattle.paper.specs.Tables.Lent.{num, padded}
use Rattle.paper.specs.Computed.HandedIn.{handed_in}
use Rattle.paper.specs.Unk.Entry.{Entry, Sixteen, Unk, UnkFits, EachUnk, done, next, entries_from, entries_of, word_of, details_of, stored, unk_of, length_bytes}
use Rattle.paper.specs.declared.Counts.{Counts}
use Rattle.paper.specs.declared.Refusal.{Refusal}
use Rattle.paper.proofs.Apart.{zero_one, none_some, refuses_gives}
use Rattle.paper.proofs.Lists.Facts.{offsets_length}
use Rattle.paper.proofs.Tables.Laws.{le_length, value_le, table_length}
use Rattle.paper.proofs.Tables.Trip.{places_length, wide_place}
use Rattle.paper.proofs.Unk.Details.{stored_length, details_fit, details_are, word_is, entry_unknown, details_unknown}
use Rattle.paper.proofs.Unk.Line.{sixteen}
use Rattle.paper.proofs.Unk.Members.{category_unknown}
use Rattle.paper.proofs.Unk.Numbered.{some_same}
use Rattle.unk_enter.specs.Fields.{word_bytes, entry_size, offset_size}
use Rattle.unk.specs.Layout.{UnkTables, layout, entry_table}
use Rattle.unk.specs.Parse.{in_room, past, behind, entries_size, offsets_size, places_size, members_size}
use Rattle.unk.proofs.Promise.{FitsRoom, tables_fit}
use Rattle.unk.proofs.Whole.{named, handed_true, handed_decoded}
use Rattle.word.specs.declared.Span.{Span}
use Rattle.word.specs.declared.WordEntry.{WordEntry}
use Rattle.word.specs.Words as specs
use Rattle.word.specs.Words.{within, members_of, word_ids_in, word_entry_in, span_at, word_details_in, found, entry, held}
use Rattle.word.specs.Left.{or_unknown, part_of, id_bytes, as_word}
use Rattle.word.proofs.Words.{number_unknown_lem, entry_there, part_there}
use Rattle.word.proofs.Entries.{found_below, entry_found, run_found, words_length, word_found, Stands, slot_found, Stored, stored_found}
use Rattle.std.specs.Prelude.{Err, Ok}

-- ---- a category's entries

slot_back : (p : NameSlot) → p.start < modulus16 → p.len < modulus16 → name_slot_of (name_slot_bytes p) ≡ p
unfolding num
slot_back p h i = ap₂ (λ a b. record { start = a; len = b }) (value_le u16_size p.start h) (value_le u16_size p.len i)

ids_given : (places members : List ℕ) (count c : ℕ) (p : NameSlot) → c < count → name_slot_size * suc c ≤ length places → name_slot_of (entry_at name_slot_size places c) ≡ p
    → reference_size * p.start + reference_size * p.len ≤ length members → word_ids_in places members count c ≡ gives (members_of p)
unfolding word_ids_in
ids_given places members count c p known long e inside =
    entry_there name_slot_size count c places _ known long ∙ ap (λ s. within (length members) (members_of s)) e ∙ part_there (length members) (members_of p) inside

module _ (kss : List (List ℕ)) (more rest : List ℕ) (count : ℕ) (counted : length kss ≡ count) (few : length (joined kss) ≤ max_unk_entries) where
  abbrev slots : List NameSlot
  slots = name_slots 0 (map length kss)

  abbrev place_bytes : List ℕ
  place_bytes = joined (map name_slot_bytes (name_slots 0 (map length kss))) ++ more

  abbrev member_bytes : List ℕ
  member_bytes = id_bytes (joined kss) ++ rest

  places_long : (c : ℕ) → c < count → name_slot_size * suc c ≤ length place_bytes
  places_long c h =
      let a = table_length name_slot_size name_slot_bytes wide_place slots in
      let b = places_length 0 (map length kss) in
      let d = length-map kss length in
      let e = length-append (joined (map name_slot_bytes slots)) more in
      omega arith

  members_long : length member_bytes ≡ reference_size * length (joined kss) + length rest
  members_long =
      let a = table_length reference_size (le reference_size) (le_length reference_size) (joined kss) in
      let e = length-append (id_bytes (joined kss)) rest in
      omega arith

  ids_there : (c : ℕ) (ks : List ℕ) → get_elem? kss c ≡ some ks → part_of member_bytes (word_ids_in place_bytes member_bytes count c) ≡ gives (id_bytes ks)
  ids_there c ks h = go (slot_found 0 kss c ks h)
    where
      go : Stands 0 kss c ks → part_of member_bytes (word_ids_in place_bytes member_bytes count c) ≡ gives (id_bytes ks)
      go s =
          let known : c < length kss = found_below kss c ks h in
          let w = ap length s.whole in
          let a = length-append s.before (ks ++ s.after) in
          let b = length-append ks s.after in
          let m = members_long in
          let z : reference_size * (0 + length s.before) ≡ reference_size * length s.before = omega arith in
          let e : name_slot_of (entry_at name_slot_size place_bytes c) ≡ record { start = 0 + length s.before; len = length ks }
          = ap name_slot_of (entry_found name_slot_size name_slot_bytes wide_place slots more c (record { start = 0 + length s.before; len = length ks }) s.slot)
          ∙ slot_back (record { start = 0 + length s.before; len = length ks }) (omega arith) (omega arith) in
          ap (part_of member_bytes)
          (ids_given place_bytes member_bytes count c (record { start = 0 + length s.before; len = length ks }) (omega arith) (places_long c (omega arith)) e (omega arith))
          ∙ ap gives
          (ap₂ (λ n l. take (reference_size * length ks) (drop n (id_bytes l ++ rest))) z s.whole
          ∙ run_found reference_size (le reference_size) (le_length reference_size) s.before ks s.after rest)

-- ---- an entry

each_sixteen : {css : List (List ℕ)} {es : List Entry} → EachUnk css es → (k : ℕ) (e : Entry) → get_elem? es k ≡ some e → Sixteen e
each_sixteen done k e h = none_some h
each_sixteen (next {cs = cs} {e = d} u t) zero e h = subst Sixteen (some_same h) (sixteen cs d u)
each_sixteen (next u t) (suc k) e h = each_sixteen t k e h

word_back : (left right cost mark : ℕ) → left < modulus16 → right < modulus16 → cost < modulus16 → specs.word_of (word_bytes left right cost mark) ≡ as_word (left, right, cost)
unfolding num word_bytes
word_back left right cost mark l r c =
    let el = value_le u16_size left l in
    let er = value_le u16_size right r in
    let ec = value_le u16_size cost c in
    λ i. record { left = el i; right = er i; cost = ec i }

word_given : (members : List (List ℕ)) (ws : List (ℕ × ℕ × ℕ)) (rest : List ℕ) (k : ℕ) (e : Entry) → Sixteen e → get_elem? ws k ≡ some (e.left, e.right, e.cost)
    → word_entry_in (entry_table members 0 ws ++ rest) (length ws) k ≡ gives (as_word (e.left, e.right, e.cost))
unfolding word_entry_in
word_given members ws rest k e s h =
    let known : k < length ws = found_below ws k (e.left, e.right, e.cost) h in
    let a = words_length members 0 ws in
    let b = length-append (entry_table members 0 ws) rest in
    let (mark, there) = word_found members 0 ws rest k e.left e.right e.cost h in
    entry_there entry_size (length ws) k (entry_table members 0 ws ++ rest) _ known (omega arith)
    ∙ ap gives (ap specs.word_of there ∙ word_back e.left e.right e.cost mark s.left_fits s.right_fits s.cost_fits)

-- ---- an entry's details

module _ (details : List ℕ) (at : ℕ) (e : Entry) (more : List ℕ) (there : drop at details ≡ stored e ++ more) (inside : at + length (stored e) ≤ length details)
    (small : length e.details ≤ max_detail_bytes) where
  length_said : num u32_size at details ≡ length e.details
  unfolding num stored
  length_said = ap (λ l. value (take u32_size l)) there ∙ value_le u32_size (length e.details) (omega arith)

  fields_said : take (length e.details) (drop (at + length_bytes) details) ≡ e.details
  unfolding stored
  fields_said = ap (take (length e.details)) (sym (drop-drop length_bytes at details) ∙ ap (drop length_bytes) there) ∙ take-append_seam e.details more

  span_given : span_at details at ≡ gives (record { start = at + length_bytes; len = length e.details })
  unfolding span_at
  span_given =
      let a = stored_length e in
      rw (le-ltb (length details) (at + length_bytes) (omega arith))
      (ap (λ n. within (length details) (record { start = at + length_bytes; len = n })) length_said
      ∙ part_there (length details) (record { start = at + length_bytes; len = length e.details }) (omega arith))

  span_part : part_of details (span_at details at) ≡ gives e.details
  span_part = ap (part_of details) span_given ∙ ap gives fields_said

details_given : (offsets details : List ℕ) (count k at : ℕ) → k < count → offset_size * suc k ≤ length offsets → num u32_size 0 (entry_at offset_size offsets k) ≡ at
    → word_details_in offsets details count k ≡ span_at details at
unfolding word_details_in
details_given offsets details count k at known long e = entry_there offset_size count k offsets _ known long ∙ ap (span_at details) e

offset_back : (at : ℕ) → at ≤ max_detail_bytes → num u32_size 0 (le u32_size at) ≡ at
unfolding num
offset_back at h = value_le u32_size at (omega arith)

module _ (es : List Entry) (more rest : List ℕ) (count : ℕ) (counted : length es ≡ count) (short : length (joined (map stored es)) ≤ max_detail_bytes) where
  abbrev offset_bytes : List ℕ
  offset_bytes = joined (map (le u32_size) (offsets_from 0 (map stored es))) ++ more

  abbrev detail_bytes : List ℕ
  detail_bytes = joined (map stored es) ++ rest

  details_there : (k : ℕ) (e : Entry) → get_elem? es k ≡ some e → part_of detail_bytes (word_details_in offset_bytes detail_bytes count k) ≡ gives e.details
  details_there k e h = go (stored_found [] es rest k e h)
    where
      go : Stored [] es rest k e → part_of detail_bytes (word_details_in offset_bytes detail_bytes count k) ≡ gives e.details
      go s =
          let known : k < length es = found_below es k e h in
          let a = table_length offset_size (le u32_size) (le_length u32_size) (offsets_from 0 (map stored es)) in
          let b = offsets_length 0 (map stored es) in
          let d = length-map es stored in
          let o = length-append (joined (map (le u32_size) (offsets_from 0 (map stored es)))) more in
          let l = length-append (joined (map stored es)) rest in
          let i : s.at + length (stored e) ≤ 0 + length (joined (map stored es)) = s.inside in
          let c = stored_length e in
          let n : num u32_size 0 (entry_at offset_size offset_bytes k) ≡ s.at
          = ap (num u32_size 0) (entry_found offset_size (le u32_size) (le_length u32_size) (offsets_from 0 (map stored es)) more k s.at s.offset)
          ∙ offset_back s.at (omega arith) in
          ap (part_of detail_bytes) (details_given offset_bytes detail_bytes count k s.at (omega arith) (omega arith) n)
          ∙ span_part detail_bytes s.at e s.more s.there (omega arith) (omega arith)

-- ---- the tables begin with the layout

abbrev Front : List ℕ → List ℕ → Type 0
Front x l = (rest : List ℕ) × (l ≡ x ++ rest)

front : (n : ℕ) (x l r : List ℕ) → l ≡ padded n x ++ r → Front x l
unfolding padded
front n x l r e = (replicate (n - length x) 0 ++ r, e ∙ append_assoc x (replicate (n - length x) 0) r)

record Fronts (x t : UnkTables) : Type 0 where
  entries : Front x.entries t.entries
  offsets : Front x.offsets t.offsets
  details : Front x.details t.details
  places : Front x.places t.places
  members : Front x.members t.members

fronts : (x lent t : UnkTables) → t ≡ behind (in_room x) (past lent) → Fronts x t
unfolding behind in_room past
fronts x lent t e =
    record {
      entries = front entries_size x.entries t.entries (drop entries_size lent.entries) (ap (λ y. y.entries) e);
      offsets = front offsets_size x.offsets t.offsets (drop offsets_size lent.offsets) (ap (λ y. y.offsets) e);
      details = front max_detail_bytes x.details t.details (drop max_detail_bytes lent.details) (ap (λ y. y.details) e);
      places = front places_size x.places t.places (drop places_size lent.places) (ap (λ y. y.places) e);
      members = front members_size x.members t.members (drop members_size lent.members) (ap (λ y. y.members) e);
    }

-- ---- from what is found to what the functions return

abbrev unknown : Refusal
unknown = record { number = number_unknown; place = 0 }

part_is : (table : List ℕ) (a : Looked Span) (l : List ℕ) → part_of table a ≡ gives l → held table a ≡ l
part_is table (gives s) l e = cc
part_is table (refuses k) l e = refuses_gives e

-- refused by 15 where nothing is found, and by nothing else
part_refused : (table : List ℕ) (a : Looked Span) (o : Option (List ℕ)) → part_of table a ≡ or_unknown o → (x : Refusal)
    → (found a ≡ Err x) ↔ ((o ≡ none) × (x ≡ unknown))
part_refused table (gives s) (some l) e x = (λ h. zero_one (cc), λ (h, i). none_some (sym h))
part_refused table (gives s) none e x = refuses_gives (sym e)
part_refused table (refuses k) (some l) e x = refuses_gives e
part_refused table (refuses k) none e x =
    let i : k ≡ number_unknown = cc in
    let r : ◌≡◌ {A = Refusal} (record { number = k; place = 0 }) unknown = ap (λ m. record { number = m; place = 0 }) i in
    (λ h. (refl, let j : x ≡ record { number = k; place = 0 } = cc in j ∙ r), λ (h, j). ap Err (r ∙ sym j))

word_refused : (a : Looked WordEntry) (o : Option WordEntry) → a ≡ or_unknown o → (x : Refusal) → (entry a ≡ Err x) ↔ ((o ≡ none) × (x ≡ unknown))
word_refused a (some w) e x = (λ h. let d = sym (ap entry e) ∙ h in zero_one (cc), λ (h, i). none_some (sym h))
word_refused a none e x = (λ h. (refl, let d = sym (ap entry e) ∙ h in cc), λ (h, j). ap entry e ∙ ap Err (sym j))

-- ---- EACH LOOKUP BY ITS NUMBER, over the tables that `parse_unk` leaves: q is the reading that it worked from, u what the text says

module _ (t : Tables) (n : Counts) (q : Reading) (handed : handed_in t n ≡ some q) (text : List ℕ) (u : Unk) (f : UnkFits q.names text u)
    (lent left : UnkTables) (is : left ≡ behind (in_room (layout u)) (past lent)) where
  fitting : FitsRoom (layout u)
  fitting = tables_fit t n q handed text u f

  begin : Fronts (layout u) left
  begin = fronts (layout u) lent left is

  names_counted : length q.names ≡ n.categories
  names_counted =
      ap (λ (x : Reading). length x.names) (sym (handed_decoded t n q handed)) ∙ (named t n (handed_true t n q handed)).counted

  lists_counted : length u.members ≡ n.categories
  unfolding unk_of
  lists_counted = ap (λ (v : Unk). length v.members) f.says ∙ length-map q.names (λ x. entries_from 0 x f.entries) ∙ names_counted

  words_counted : length u.word_entries ≡ length f.entries
  unfolding unk_of
  words_counted = ap (λ (v : Unk). length v.word_entries) f.says ∙ length-map f.entries (λ e. (e.left, e.right, e.cost))

  lists_few : length (joined u.members) ≤ max_unk_entries
  unfolding layout
  lists_few =
      let a = table_length reference_size (le reference_size) (le_length reference_size) (joined u.members) in
      let b : length (id_bytes (joined u.members)) ≤ members_size = fitting.members in
      omega arith

  store_is : u.store ≡ joined (map stored f.entries)
  unfolding unk_of
  store_is = ap (λ (v : Unk). v.store) f.says

  offsets_are : u.offsets ≡ offsets_from 0 (map stored f.entries)
  unfolding unk_of
  offsets_are = ap (λ (v : Unk). v.offsets) f.says

  -- a category's entries, two bytes each
  pub left_word_ids : (c : ℕ) → part_of left.members (word_ids_in left.places left.members n.categories c) ≡ or_unknown (Option.map id_bytes (entries_of u c))
  unfolding layout word_ids_in
  left_word_ids c = go (entries_of u c) refl
    where
      go : (o : Option (List ℕ)) → entries_of u c ≡ o → part_of left.members (word_ids_in left.places left.members n.categories c) ≡ or_unknown (Option.map id_bytes o)
      go none e =
          let h = (category_unknown q.names text u f c).0 e in
          let d = names_counted in
          ap (part_of left.members) (number_unknown_lem name_slot_size n.categories c left.places _ (omega arith))
      go (some ks) e =
          ap₂ (λ x y. part_of y (word_ids_in x y n.categories c)) begin.places.1 begin.members.1
          ∙ ids_there u.members begin.places.0 begin.members.0 n.categories lists_counted lists_few c ks e

  -- left, right and cost of an entry
  pub left_word : (k : ℕ) → word_entry_in left.entries (length u.word_entries) k ≡ or_unknown (Option.map as_word (word_of u k))
  unfolding layout word_entry_in
  left_word k = go (get_elem? f.entries k) refl ∙ ap (λ o. or_unknown (Option.map as_word o)) (sym (word_is q.names text u f k))
    where
      go : (o : Option Entry) → get_elem? f.entries k ≡ o
          → word_entry_in left.entries (length u.word_entries) k ≡ or_unknown (Option.map as_word (Option.map (λ e. (e.left, e.right, e.cost)) o))
      go none e =
          let h = (entry_unknown q.names text u f k).0 (word_is q.names text u f k ∙ ap (Option.map (λ e. (e.left, e.right, e.cost))) e) in
          let d = words_counted in
          number_unknown_lem entry_size (length u.word_entries) k left.entries _ (omega arith)
      go (some e) h =
          ap (λ x. word_entry_in x (length u.word_entries) k) begin.entries.1
          ∙ word_given u.members u.word_entries begin.entries.0 k e (each_sixteen f.each k e h)
          (word_is q.names text u f k ∙ ap (Option.map (λ e. (e.left, e.right, e.cost))) h)

  -- the joined details of an entry
  pub left_details : (k : ℕ) → part_of left.details (word_details_in left.offsets left.details (length u.word_entries) k) ≡ or_unknown (details_of u k)
  unfolding layout word_details_in
  left_details k = go (get_elem? f.entries k) refl ∙ ap or_unknown (sym (details_are q.names text u f k))
    where
      offsets_front : left.offsets ≡ joined (map (le u32_size) (offsets_from 0 (map stored f.entries))) ++ begin.offsets.0
      offsets_front = begin.offsets.1 ∙ ap (λ l. joined (map (le u32_size) l) ++ begin.offsets.0) offsets_are

      details_front : left.details ≡ joined (map stored f.entries) ++ begin.details.0
      details_front = begin.details.1 ∙ ap (λ l. l ++ begin.details.0) store_is

      short : length (joined (map stored f.entries)) ≤ max_detail_bytes
      short = subst (λ l. length l ≤ max_detail_bytes) store_is (details_fit q.names text u f)

      go : (o : Option Entry) → get_elem? f.entries k ≡ o
          → part_of left.details (word_details_in left.offsets left.details (length u.word_entries) k) ≡ or_unknown (Option.map (λ e. e.details) o)
      go none e =
          let h = (details_unknown q.names text u f k).0 (details_are q.names text u f k ∙ ap (Option.map (λ e. e.details)) e) in
          let d = words_counted in
          ap (part_of left.details) (number_unknown_lem offset_size (length u.word_entries) k left.offsets _ (omega arith))
      go (some e) h =
          ap₂ (λ x y. part_of y (word_details_in x y (length u.word_entries) k)) offsets_front details_front
          ∙ details_there f.entries begin.offsets.0 begin.details.0 (length u.word_entries) (sym words_counted) short k e h

  -- ---- and so what the functions return; refused by 15 exactly past the categories or the entries, and by nothing else

  pub ids_held : (c : ℕ) (ks : List ℕ) → entries_of u c ≡ some ks → held left.members (word_ids_in left.places left.members n.categories c) ≡ id_bytes ks
  ids_held c ks e = part_is left.members (word_ids_in left.places left.members n.categories c) (id_bytes ks) (left_word_ids c ∙ ap (λ o. or_unknown (Option.map id_bytes o)) e)

  pub ids_refused : (c : ℕ) (x : Refusal) → (found (word_ids_in left.places left.members n.categories c) ≡ Err x) ↔ ((length q.names ≤ c) × (x ≡ unknown))
  ids_refused c x =
      let p = part_refused left.members (word_ids_in left.places left.members n.categories c) (Option.map id_bytes (entries_of u c)) (left_word_ids c) x in
      let m = map-eq-none_iff id_bytes (entries_of u c) in
      let r = category_unknown q.names text u f c in
      (λ h. (r.0 (m.0 (p.0 h).0), (p.0 h).1), λ (i, j). p.1 (m.1 (r.1 i), j))

  pub word_held : (k : ℕ) (w : ℕ × ℕ × ℕ) → word_of u k ≡ some w → entry (word_entry_in left.entries (length u.word_entries) k) ≡ Ok (as_word w)
  word_held k w e = ap entry (left_word k ∙ ap (λ o. or_unknown (Option.map as_word o)) e)

  past_entries : {A : Type 0} (o : Option A) (k : ℕ) → (o ≡ none) ↔ (length f.entries ≤ k) → (o ≡ none) ↔ (length u.word_entries ≤ k)
  past_entries o k r = (λ h. let a = r.0 h in let b = words_counted in omega arith, λ h. r.1 (let b = words_counted in omega arith))

  pub entry_refused : (k : ℕ) (x : Refusal) → (entry (word_entry_in left.entries (length u.word_entries) k) ≡ Err x) ↔ ((length u.word_entries ≤ k) × (x ≡ unknown))
  entry_refused k x =
      let p = word_refused (word_entry_in left.entries (length u.word_entries) k) (Option.map as_word (word_of u k)) (left_word k) x in
      let m = map-eq-none_iff as_word (word_of u k) in
      let r = past_entries (word_of u k) k (entry_unknown q.names text u f k) in
      (λ h. (r.0 (m.0 (p.0 h).0), (p.0 h).1), λ (i, j). p.1 (m.1 (r.1 i), j))

  pub details_held : (k : ℕ) (l : List ℕ) → details_of u k ≡ some l → held left.details (word_details_in left.offsets left.details (length u.word_entries) k) ≡ l
  details_held k l e = part_is left.details (word_details_in left.offsets left.details (length u.word_entries) k) l (left_details k ∙ ap or_unknown e)

  pub details_refused : (k : ℕ) (x : Refusal)
      → (found (word_details_in left.offsets left.details (length u.word_entries) k) ≡ Err x) ↔ ((length u.word_entries ≤ k) × (x ≡ unknown))
  details_refused k x =
      let p = part_refused left.details (word_details_in left.offsets left.details (length u.word_entries) k) (details_of u k) (left_details k) x in
      let r = past_entries (details_of u k) k (details_unknown q.names text u f k) in
      (λ h. (r.0 (p.0 h).0, (p.0 h).1), λ (i, j). p.1 (r.1 i, j))
