-- Tables by number, with anything behind them: entry k of a table is what the k-th element was written as, whatever the width; lists that stand one
-- behind another in a pool are found by their slots, and details in a store by their offsets. Idea: one step over the first entry.
-- Assumes nothing.
use Prim.Native.Nat.{ℕ, zero, suc, ◌+◌, ◌*◌, ◌≤◌, ◌<◌, zero-le, suc-le-suc}
use native.Mathlib.Nat.{mul-suc, mul-zero}
use native.Mathlib.Omega.{arith}
use mathlib.Core.Path.{◌≡◌, refl, sym, ap, ap₂, ◌∙◌}
use mathlib.Core.List.{List, [], ◌∷◌, ◌++◌, map, append_assoc}
use mathlib.Core.Option.{some}
use lib.ListN.{length, take, drop, get_elem?, length-append}
use lib.Seq.{take_at, drop_at, drop-drop, drop-append_seam}
use Rattle.paper.specs.Lists.{joined, offsets_from}
use Rattle.paper.specs.Rows.Numbers.{entry_at}
use Rattle.paper.specs.Tables.Layout.{name_slots}
use Rattle.paper.specs.Unk.Entry.{Entry, stored}
use Rattle.paper.proofs.Apart.{none_some}
use Rattle.paper.proofs.Lists.Facts.{joined_map}
use Rattle.paper.proofs.Tables.Laws.{table_length}
use Rattle.paper.proofs.Unk.Numbered.{some_same}
use Rattle.unk_enter.specs.Fields.{word_bytes, entry_size}
use Rattle.unk.specs.Layout.{mark_among, entry_table}

pub found_below : {A : Type 0} (l : List A) (k : ℕ) (x : A) → get_elem? l k ≡ some x → k < length l
found_below [] k x e = none_some e
found_below (y ∷ l) zero x e = suc-le-suc zero-le
found_below (y ∷ l) (suc k) x e = suc-le-suc (found_below l k x e)

-- ---- entries of one width

module _ (w : ℕ) (p l : List ℕ) (wide : length p ≡ w) where
  entry_first : entry_at w (p ++ l) 0 ≡ p
  entry_first = ap (λ m. take w (drop m (p ++ l))) (mul-zero w) ∙ take_at p l w wide

  entry_next : (k : ℕ) → entry_at w (p ++ l) (suc k) ≡ entry_at w l k
  entry_next k =
      let e : w * suc k ≡ w + w * k = mul-suc w k ∙ omega arith in
      ap (λ m. take w (drop m (p ++ l))) e
      ∙ ap (take w) (sym (drop-drop (w * k) w (p ++ l)))
      ∙ ap (λ m. take w (drop (w * k) m)) (drop_at p l w wide)

module _ {A : Type 0} (w : ℕ) (f : A → List ℕ) (wide : (x : A) → length (f x) ≡ w) where
  pub entry_found : (xs : List A) (rest : List ℕ) (k : ℕ) (x : A) → get_elem? xs k ≡ some x → entry_at w (joined (map f xs) ++ rest) k ≡ f x
  entry_found [] rest k x e = none_some e
  entry_found (y ∷ xs) rest zero x e =
      ap (λ l. entry_at w l 0) (append_assoc (f y) (joined (map f xs)) rest)
      ∙ entry_first w (f y) (joined (map f xs) ++ rest) (wide y)
      ∙ ap f (some_same e)
  entry_found (y ∷ xs) rest (suc k) x e =
      ap (λ l. entry_at w l (suc k)) (append_assoc (f y) (joined (map f xs)) rest)
      ∙ entry_next w (f y) (joined (map f xs) ++ rest) (wide y) k
      ∙ entry_found xs rest k x e

  -- elements that stand together
  pub run_found : (before xs after : List A) (rest : List ℕ)
      → take (w * length xs) (drop (w * length before) (joined (map f (before ++ (xs ++ after))) ++ rest)) ≡ joined (map f xs)
  run_found before xs after rest =
      let e : joined (map f (before ++ (xs ++ after))) ++ rest ≡ joined (map f before) ++ (joined (map f xs) ++ (joined (map f after) ++ rest))
      = ap (λ l. l ++ rest) (joined_map f before (xs ++ after))
      ∙ append_assoc (joined (map f before)) (joined (map f (xs ++ after))) rest
      ∙ ap (λ l. joined (map f before) ++ l) (ap (λ l. l ++ rest) (joined_map f xs after) ∙ append_assoc (joined (map f xs)) (joined (map f after)) rest) in
      ap (λ l. take (w * length xs) (drop (w * length before) l)) e
      ∙ ap (take (w * length xs)) (drop_at (joined (map f before)) (joined (map f xs) ++ (joined (map f after) ++ rest)) (w * length before) (table_length w f wide before))
      ∙ take_at (joined (map f xs)) (joined (map f after) ++ rest) (w * length xs) (table_length w f wide xs)

-- ---- the table of entries, whose marks nobody looks up

wide_word : (left right cost mark : ℕ) → length (word_bytes left right cost mark) ≡ entry_size
unfolding word_bytes
wide_word left right cost mark = refl

pub words_length : (members : List (List ℕ)) (j : ℕ) (ws : List (ℕ × ℕ × ℕ)) → length (entry_table members j ws) ≡ entry_size * length ws
unfolding entry_table
words_length members j [] = refl
words_length members j ((left, right, cost) ∷ ws) =
    let a = length-append (word_bytes left right cost (mark_among 0 members j)) (entry_table members (suc j) ws) in
    let b = wide_word left right cost (mark_among 0 members j) in
    let c = words_length members (suc j) ws in
    omega arith

pub word_found : (members : List (List ℕ)) (j : ℕ) (ws : List (ℕ × ℕ × ℕ)) (rest : List ℕ) (k left right cost : ℕ) → get_elem? ws k ≡ some (left, right, cost)
    → (mark : ℕ) × (entry_at entry_size (entry_table members j ws ++ rest) k ≡ word_bytes left right cost mark)
unfolding entry_table
word_found members j [] rest k left right cost e = none_some e
word_found members j ((l, r, c) ∷ ws) rest zero left right cost e =
    let q : ◌≡◌ {A = ℕ × ℕ × ℕ} (l, r, c) (left, right, cost) = some_same e in (
      mark_among 0 members j,
      ap (λ b. entry_at entry_size b 0) (append_assoc (word_bytes l r c (mark_among 0 members j)) (entry_table members (suc j) ws) rest)
          ∙ entry_first entry_size (word_bytes l r c (mark_among 0 members j)) (entry_table members (suc j) ws ++ rest) (wide_word l r c (mark_among 0 members j))
          ∙ ap (λ (x : ℕ × ℕ × ℕ). word_bytes x.0 x.1 x.2 (mark_among 0 members j)) q,
    )
word_found members j ((l, r, c) ∷ ws) rest (suc k) left right cost e =
    let (mark, there) = word_found members (suc j) ws rest k left right cost e in (
      mark,
      ap (λ b. entry_at entry_size b (suc k)) (append_assoc (word_bytes l r c (mark_among 0 members j)) (entry_table members (suc j) ws) rest)
          ∙ entry_next entry_size (word_bytes l r c (mark_among 0 members j)) (entry_table members (suc j) ws ++ rest) (wide_word l r c (mark_among 0 members j)) k
          ∙ there,
    )

-- ---- lists one behind another in a pool, by their slots

pub record Stands (at : ℕ) (kss : List (List ℕ)) (c : ℕ) (ks : List ℕ) : Type 0 where
  pub before : List ℕ
  pub after : List ℕ
  pub whole : joined kss ≡ before ++ (ks ++ after)
  pub slot : get_elem? (name_slots at (map length kss)) c ≡ some (record { start = at + length before; len = length ks })

pub slot_found : (at : ℕ) (kss : List (List ℕ)) (c : ℕ) (ks : List ℕ) → get_elem? kss c ≡ some ks → Stands at kss c ks
unfolding name_slots
slot_found at [] c ks e = none_some e
slot_found at (l ∷ kss) zero ks e =
    let q : l ≡ ks = some_same e in
    let z : at ≡ at + 0 = omega arith in
    record {
      before = [];
      after = joined kss;
      whole = ap (λ m. m ++ joined kss) q;
      slot = ap₂ (λ (n : ℕ) (m : List ℕ). some (record { start = n; len = length m })) z q;
    }
slot_found at (l ∷ kss) (suc c) ks e =
    let s = slot_found (at + length l) kss c ks e in
    let n : at + length l + length s.before ≡ at + length (l ++ s.before) = (let a = length-append l s.before in omega arith) in
    record {
      before = l ++ s.before;
      after = s.after;
      whole = ap (λ m. l ++ m) s.whole ∙ sym (append_assoc l s.before (ks ++ s.after));
      slot = s.slot ∙ ap (λ (m : ℕ). some (record { start = m; len = length ks })) n;
    }

-- ---- details in a store, by their offsets: `pre` holds what stands before these entries' details, `rest` what stands behind

pub record Stored (pre : List ℕ) (es : List Entry) (rest : List ℕ) (k : ℕ) (e : Entry) : Type 0 where
  pub at : ℕ
  pub more : List ℕ
  pub offset : get_elem? (offsets_from (length pre) (map stored es)) k ≡ some at
  pub there : drop at (pre ++ (joined (map stored es) ++ rest)) ≡ stored e ++ more
  pub inside : at + length (stored e) ≤ length pre + length (joined (map stored es))

pub stored_found : (pre : List ℕ) (es : List Entry) (rest : List ℕ) (k : ℕ) (e : Entry) → get_elem? es k ≡ some e → Stored pre es rest k e
stored_found pre [] rest k e h = none_some h
stored_found pre (d ∷ es) rest zero e h =
    let q : d ≡ e = some_same h in
    let a = length-append (stored d) (joined (map stored es)) in
    let b = ap (λ x. length (stored x)) q in
    record {
      at = length pre;
      more = joined (map stored es) ++ rest;
      offset = refl;
      there = drop-append_seam pre ((stored d ++ joined (map stored es)) ++ rest)
          ∙ append_assoc (stored d) (joined (map stored es)) rest
          ∙ ap (λ x. stored x ++ (joined (map stored es) ++ rest)) q;
      inside = omega arith;
    }
stored_found pre (d ∷ es) rest (suc k) e h =
    let s = stored_found (pre ++ stored d) es rest k e h in
    let a = length-append (stored d) (joined (map stored es)) in
    let b = length-append pre (stored d) in
    let i = s.inside in
    record {
      at = s.at;
      more = s.more;
      offset = ap (λ n. get_elem? (offsets_from n (map stored es)) k) (sym b) ∙ s.offset;
      there = ap (drop s.at)
          (ap (λ l. pre ++ l) (append_assoc (stored d) (joined (map stored es)) rest) ∙ sym (append_assoc pre (stored d) (joined (map stored es) ++ rest)))
          ∙ s.there;
      inside = omega arith;
    }
