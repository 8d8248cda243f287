-- What `parse_dictionary_entry` promises, by the paper's relations: an entry exactly where the line says it, 23 exactly where it has under four
-- fields, 24 exactly where a number of four is unreadable. And the promise leaves nothing open: two answers that it allows coincide.
-- Assumes nothing.
use Prim.Native.Nat.{ℕ, ◌-◌, ◌≤◌}
use native.Mathlib.Omega.{arith}
use mathlib.Core.Path.{◌≡◌, refl, sym, ap, ◌∙◌, subst}
use mathlib.Core.Logic.{◌↔◌}
use mathlib.Core.List.{List, [], ◌∷◌}
use lib.Dec.{lit≤}
use lib.ListN.{length, take, drop, length-take, length-drop}
use Rattle.paper.specs.Unk.Entry.{Entry}
use Rattle.paper.specs.Unk.Entry as paper
use Rattle.paper.specs.Unk.Bad.{BadUnkLine}
use Rattle.paper.specs.Computed.ReadUnk.{UnkFound, entry, no_entry, unk_line_of, Entries, entries_are, stops, enter_unk, read_entries}
use Rattle.paper.proofs.Apart.{zero_one, stops_entries}
use Rattle.paper.proofs.Unk.Line.{unk_line}
use Rattle.paper.proofs.Unk.Bad.{unk_bad_line, stops_same}
use Rattle.unk_line.specs.Line.{SaysLine, entry_at, joined_fields}
use Rattle.unk_line.specs.declared.UnkEntry.{UnkEntry}
use Rattle.unk_line.proofs.Joined.{joined_long}
use Rattle.std.specs.Prelude.{Err, Ok, Result}

-- ---- nothing is left open

module _ (text : List ℕ) (start end : ℕ) where
  -- the places follow from the lengths of what stands there
  surface_is : (e : UnkEntry) → start ≤ e.surface → e.surface ≤ length (take end text) → length (drop start (take e.surface text)) ≡ e.surface - start
  surface_is e f h =
      let a : length (take end text) ≤ length text = simp length-take (omega arith) in
      simp (length-drop, length-take) (omega arith)

  details_is : (e : UnkEntry) → length (joined_fields (drop e.details (take end text))) ≡ length (take end text) - e.details
  details_is e = joined_long (drop e.details (take end text)) ∙ length-drop e.details (take end text)

  pub one_line : (found : UnkFound) (r s : Result UnkEntry ℕ) → SaysLine text start end found r → SaysLine text start end found s → r ≡ s
  one_line found (Ok d) (Ok e) p q =
      let t : entry (entry_at text start end d) ≡ entry (entry_at text start end e) = sym p.is ∙ q.is in
      let u : entry_at text start end d ≡ entry_at text start end e = cc in
      let l : d.left ≡ e.left = ap (λ x. x.left) u in
      let r : d.right ≡ e.right = ap (λ x. x.right) u in
      let k : d.cost ≡ e.cost = ap (λ x. x.cost) u in
      let n = ap (λ x. length x.category) u in
      let m = ap (λ x. length x.details) u in
      let a = surface_is d p.from p.surface_inside in
      let b = surface_is e q.from q.surface_inside in
      let v = p.from in
      let w = q.from in
      let s : d.surface ≡ e.surface = omega arith in
      let g = details_is d in
      let h = details_is e in
      let i = p.details_inside in
      let j = q.details_inside in
      let o : d.details ≡ e.details = omega arith in
      λ x. Ok (record { surface = s x; left = l x; right = r x; cost = k x; details = o x })
  one_line found (Ok d) (Err n) p q = let t = p.is in zero_one (cc)
  one_line found (Err m) (Ok e) p q = let t = q.is in zero_one (cc)
  one_line found (Err m) (Err n) p q = let t : no_entry m ≡ no_entry n = sym p ∙ q in let d : m ≡ n = cc in ap Err d

-- ---- by the paper's relations

-- a line that stands alone
alone : UnkFound → Entries
alone f = enter_unk 1 f (λ j. entries_are [])

alone_read : (cs : List ℕ) → read_entries 1 (cs ∷ []) ≡ alone (unk_line_of cs)
unfolding alone read_entries
alone_read cs = refl

alone_bad : (n : ℕ) → alone (no_entry n) ≡ stops n 1
unfolding alone
alone_bad n = refl

alone_entry : (e : Entry) → alone (entry e) ≡ entries_are (e ∷ [])
unfolding alone
alone_entry e = refl

module _ (text : List ℕ) (start end : ℕ) {r : Result UnkEntry ℕ} (p : SaysLine text start end (unk_line_of (drop start (take end text))) r) where
  -- the entry that is answered is the line's
  pub entry_fits : (e : UnkEntry) → r ≡ Ok e → paper.UnkLine (drop start (take end text)) (entry_at text start end e)
  entry_fits e h = (unk_line (drop start (take end text)) (entry_at text start end e)).0 (subst (SaysLine text start end (unk_line_of (drop start (take end text)))) h p).is

  -- and where the line says an entry, that entry is answered
  pub fits_entry : (e : Entry) → paper.UnkLine (drop start (take end text)) e → (d : UnkEntry) × ((r ≡ Ok d) × (entry_at text start end d ≡ e))
  fits_entry e u = go r refl p
    where
      go : (s : Result UnkEntry ℕ) → r ≡ s → SaysLine text start end (unk_line_of (drop start (take end text))) s
          → (d : UnkEntry) × ((r ≡ Ok d) × (entry_at text start end d ≡ e))
      go (Ok d) h q =
          let a : unk_line_of (drop start (take end text)) ≡ entry (entry_at text start end d) = q.is in
          let b : unk_line_of (drop start (take end text)) ≡ entry e = (unk_line (drop start (take end text)) e).1 u in
          (d, (h, cc))
      go (Err n) h q =
          let b : unk_line_of (drop start (take end text)) ≡ entry e = (unk_line (drop start (take end text)) e).1 u in
          zero_one (cc)

  -- a number exactly where that is what is wrong with the line
  pub refuses_line : (n : ℕ) → (r ≡ Err n) ↔ BadUnkLine 0 (drop start (take end text)) n
  refuses_line n = (to, λ b. go r refl p (sym (alone_read (drop start (take end text))) ∙ (unk_bad_line 0 (drop start (take end text)) n (lit≤ tt)).1 b))
    where
      to : r ≡ Err n → BadUnkLine 0 (drop start (take end text)) n
      to h =
          let f : unk_line_of (drop start (take end text)) ≡ no_entry n = subst (SaysLine text start end (unk_line_of (drop start (take end text)))) h p in
          (unk_bad_line 0 (drop start (take end text)) n (lit≤ tt)).0 (alone_read (drop start (take end text)) ∙ ap alone f ∙ alone_bad n)

      go : (s : Result UnkEntry ℕ) → r ≡ s → SaysLine text start end (unk_line_of (drop start (take end text))) s → alone (unk_line_of (drop start (take end text))) ≡ stops n 1
          → r ≡ Err n
      go (Ok d) h q g = stops_entries (sym (sym (alone_entry (entry_at text start end d)) ∙ sym (ap alone q.is) ∙ g))
      go (Err m) h q g = h ∙ ap Err (stops_same (sym (alone_bad m) ∙ sym (ap alone q) ∙ g)).0
