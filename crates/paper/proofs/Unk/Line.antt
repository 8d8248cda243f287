-- A line of unk.def: it is read as an entry exactly where it says it, and an entry's numbers have 16 bits.
-- Assumes nothing.
use Prim.Native.Nat.{ℕ, ◌%◌}
use native.Mathlib.Omega.{arith}
use mathlib.Core.Path.{◌≡◌, refl, sym, ap, ◌∙◌, subst}
use mathlib.Core.Logic.{◌↔◌}
use mathlib.Core.Option.{Option, none, some}
use mathlib.Core.List.{List, [], ◌∷◌}
use lib.Dec.{T}
use Rattle.paper.specs.Sizes.{max_u32, max_i32, low_i32}
use Rattle.paper.specs.Lists.{all, cut, is, without, join_with}
use Rattle.paper.specs.Text.Scalar.{comma}
use Rattle.paper.specs.Numbers.Numeral.{Integer, decimal, modulus16, wrap16}
use Rattle.paper.specs.Unk.Entry.{Entry, nul, UnkLine, Sixteen}
use Rattle.paper.specs.Computed.Numeral.{numeral, signed_numeral}
use Rattle.paper.specs.Computed.ReadUnk.{entry, no_entry, from_unk_numbers, from_fields, unk_line_of}
use Rattle.paper.proofs.Apart.{zero_one}
use Rattle.paper.proofs.Lists.Pieces.{cut_pieces}
use Rattle.paper.proofs.Numbers.Read.{numeral_sound, numeral_read, decimal_small}
use Rattle.paper.proofs.Numbers.Laws.{signed, wrap_below}
use Rattle.paper.proofs.Unk.Lines.{cut_join_with, pieces_join_with}

pub no_entry_entry {ℓ} : {X : Type ℓ} {n : ℕ} {e : Entry} → no_entry n ≡ entry e → X
no_entry_entry h = zero_one (cc)

numbers_sound : (cs a b c d : List ℕ) (ds : List (List ℕ)) (e : Entry) → cs ≡ join_with comma (a ∷ b ∷ c ∷ d ∷ ds) → T (all (without comma) (a ∷ b ∷ c ∷ d ∷ ds))
    → (x : Option ℕ) → numeral decimal max_u32 b ≡ x → (y : Option ℕ) → numeral decimal max_u32 c ≡ y
    → (z : Option Integer) → signed_numeral decimal max_i32 low_i32 d ≡ z → from_unk_numbers a x y z ds ≡ entry e → UnkLine cs e
numbers_sound cs a b c d ds e w p none ex y ey z ez h = no_entry_entry h
numbers_sound cs a b c d ds e w p (some l) ex none ey z ez h = no_entry_entry h
numbers_sound cs a b c d ds e w p (some l) ex (some r) ey none ez h = no_entry_entry h
numbers_sound cs a b c d ds e w p (some l) ex (some r) ey (some i) ez h =
    let made : Entry = record { category = a; left = l % modulus16; right = r % modulus16; cost = wrap16 i; details = join_with nul ds } in
    let k : e ≡ made = (let g : entry made ≡ entry e = h in cc) in
    subst (UnkLine cs) (sym k)
    (record {
      left_field = b;
      right_field = c;
      cost_field = d;
      more = ds;
      whole = w;
      parted = p;
      left_number = l;
      left_read = numeral_sound decimal max_u32 b l ex;
      right_number = r;
      right_read = numeral_sound decimal max_u32 c r ey;
      cost_number = i;
      cost_read = (signed decimal max_i32 low_i32 decimal_small d i).0 ez;
      left_is = refl;
      right_is = refl;
      cost_is = refl;
      details_are = refl;
    })

pub unk_line_sound : (cs : List ℕ) (e : Entry) → unk_line_of cs ≡ entry e → UnkLine cs e
unfolding unk_line_of from_fields
unk_line_sound cs e h = let (w, n, p) = pieces_join_with comma (cut_pieces (is comma) cs) in go (cut (is comma) cs) w p h
  where
    go : (fs : List (List ℕ)) → cs ≡ join_with comma fs → T (all (without comma) fs) → from_fields fs ≡ entry e → UnkLine cs e
    go [] w p h = no_entry_entry h
    go (a ∷ []) w p h = no_entry_entry h
    go (a ∷ b ∷ []) w p h = no_entry_entry h
    go (a ∷ b ∷ c ∷ []) w p h = no_entry_entry h
    go (a ∷ b ∷ c ∷ d ∷ ds) w p h =
        numbers_sound cs a b c d ds e w p (numeral decimal max_u32 b) refl (numeral decimal max_u32 c) refl (signed_numeral decimal max_i32 low_i32 d) refl h

pub unk_line_complete : (cs : List ℕ) (e : Entry) → UnkLine cs e → unk_line_of cs ≡ entry e
unfolding unk_line_of from_fields
unk_line_complete cs e u =
    ap (λ x. from_fields (cut (is comma) x)) u.whole
    ∙ ap from_fields (cut_join_with comma (e.category ∷ u.left_field ∷ u.right_field ∷ u.cost_field ∷ u.more) tt u.parted)
    ∙ rw (
      numeral_read decimal max_u32 decimal_small u.left_read,
      numeral_read decimal max_u32 decimal_small u.right_read,
      (signed decimal max_i32 low_i32 decimal_small u.cost_field u.cost_number).1 u.cost_read,
    )
    (λ i. entry (record { category = e.category; left = sym u.left_is i; right = sym u.right_is i; cost = sym u.cost_is i; details = sym u.details_are i }))

-- a line is read as an entry exactly where it says it
pub unk_line : (cs : List ℕ) (e : Entry) → (unk_line_of cs ≡ entry e) ↔ UnkLine cs e
unk_line cs e = (unk_line_sound cs e, unk_line_complete cs e)

pub unk_line_one : (cs : List ℕ) (d e : Entry) → UnkLine cs d → UnkLine cs e → d ≡ e
unk_line_one cs d e u v =
    let x = unk_line_complete cs d u in
    let y = unk_line_complete cs e v in
    cc

pub sixteen : (cs : List ℕ) (e : Entry) → UnkLine cs e → Sixteen e
sixteen cs e u =
    let l : e.left ≡ u.left_number % modulus16 = u.left_is in
    let r : e.right ≡ u.right_number % modulus16 = u.right_is in
    let c : e.cost ≡ wrap16 u.cost_number = u.cost_is in
    let b = wrap_below u.cost_number in
    record { left_fits = omega arith; right_fits = omega arith; cost_fits = omega arith }
