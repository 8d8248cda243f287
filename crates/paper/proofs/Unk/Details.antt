-- The details of unk.def's entries: all of them with their lengths take no more bytes than the text, since an entry's four bytes of length
-- stand for three commas and three numbers of its line; and what is found by an entry's number is that entry's.
-- Assumes nothing.
use Prim.Native.Nat.{ℕ, zero, suc, ◌+◌, ◌<◌, ◌≤◌, zero-le, suc-le-suc}
use native.Mathlib.Omega.{arith}
use mathlib.Core.Path.{◌≡◌, refl, sym, ap, ap₂, ◌∙◌}
use mathlib.Core.Logic.{◌↔◌}
use mathlib.Core.Bool.{Bool}
use mathlib.Core.Option
use mathlib.Core.Option.{none, some}
use mathlib.Core.List.{List, [], ◌∷◌, ◌++◌, map, append_assoc}
use lib.Dec.{T}
use lib.ListN.{length, take, drop, get_elem?, length-append}
use lib.Seq.{take-append_seam, drop-append_seam, drop-drop}
use Rattle.paper.specs.Sizes.{max_u32, max_i32, low_i32, max_detail_bytes}
use Rattle.paper.specs.Lists.{full, joined, sum, join_with, offsets_from}
use Rattle.paper.specs.Text.Scalar.{lf, cr, comma}
use Rattle.paper.specs.Numbers.Bytes.{le, value}
use Rattle.paper.specs.Numbers.Numeral.{Numeral, Integer, pos, neg, SignedNumeral, decimal}
use Rattle.paper.specs.Unk.Entry.{Lines, no_line, at_LF, at_CRLF, Entry, nul, UnkLine, stored, Unk, unk_of, EachUnk, done, next, UnkFits, length_bytes, word_of, details_at, details_of}
use Rattle.paper.proofs.Unk.Numbered.{found_map, unknown_from}
use Rattle.paper.proofs.Tables.Laws.{value_le}

-- the length of each piece and its separator
abbrev spans : List (List ℕ) → ℕ
spans ls = sum (map (λ l. suc (length l)) ls)

join_length : (s : ℕ) (l : List ℕ) (ls : List (List ℕ)) → length (join_with s (l ∷ ls)) ≡ length l + spans ls
join_length s l [] = omega arith
join_length s l (m ∷ ls) =
    let e = join_length s m ls in
    let d = length-append l (s ∷ join_with s (m ∷ ls)) in
    omega arith

join_short : (s : ℕ) (ls : List (List ℕ)) → length (join_with s ls) ≤ spans ls
join_short s [] = zero-le
join_short s (l ∷ ls) = let e = join_length s l ls in omega arith

full_length {ℓ} : {A : Type ℓ} (p : A → Bool) (s : List A) → T (full p s) → 1 ≤ length s
full_length p [] t = absurd t
full_length p (x ∷ s) t = suc-le-suc zero-le

numeral_length : {base limit : ℕ} {cs : List ℕ} {n : ℕ} → Numeral base limit cs n → 1 ≤ length cs
numeral_length r =
    let d = full_length _ r.digits r.spelled in
    let e = ap length r.whole ∙ length-append r.sign r.digits in
    omega arith

signed_length : (base top low : ℕ) (cs : List ℕ) (i : Integer) → SignedNumeral base top low cs i → 1 ≤ length cs
signed_length base top low cs (pos n) r = numeral_length r
signed_length base top low cs (neg n) r = let e = ap length r.whole in omega arith

pub stored_length : (e : Entry) → length (stored e) ≡ length_bytes + length e.details
unfolding stored
stored_length e = omega arith

-- an entry's details and their length take no more than its line
pub entry_short : (cs : List ℕ) (e : Entry) → UnkLine cs e → length (stored e) ≤ length cs
entry_short cs e u =
    let a = numeral_length u.left_read in
    let b = numeral_length u.right_read in
    let c = signed_length decimal max_i32 low_i32 u.cost_field u.cost_number u.cost_read in
    let w = ap length u.whole ∙ join_length comma e.category (u.left_field ∷ u.right_field ∷ u.cost_field ∷ u.more) in
    let d = ap length u.details_are in
    let j = join_short nul u.more in
    let s = stored_length e in
    omega arith

entries_short : {css : List (List ℕ)} {es : List Entry} → EachUnk css es → length (joined (map stored es)) ≤ sum (map length css)
entries_short done = zero-le
entries_short (next {cs = cs} {e = e} {css = css} {es = es} u t) =
    let a = entry_short cs e u in
    let b = entries_short t in
    let c = length-append (stored e) (joined (map stored es)) in
    omega arith

lines_short : {cs : List ℕ} {ls : List (List ℕ)} → Lines cs ls → sum (map length ls) ≤ length cs
lines_short no_line = zero-le
lines_short (Lines.last n a) = omega arith
lines_short (at_LF {l = l} r e a n q) =
    let h = lines_short q in
    let d = ap length e ∙ length-append l (lf ∷ r) in
    omega arith
lines_short (at_CRLF {l = l} r e a q) =
    let h = lines_short q in
    let d = ap length e ∙ length-append l (cr ∷ lf ∷ r) in
    omega arith

-- all details with their lengths take no more than the text
pub store_short : (names : List (List ℕ)) (bytes : List ℕ) (u : Unk) → UnkFits names bytes u → length u.store ≤ length bytes
unfolding unk_of
store_short names bytes u f =
    let a = entries_short f.each in
    let b = lines_short f.split in
    let e : u.store ≡ joined (map stored f.entries) = ap (λ v. v.store) f.says in
    let d = ap length e in
    omega arith

-- "details of unk.def: 65,536 bytes, which is always enough"
pub details_fit : (names : List (List ℕ)) (bytes : List ℕ) (u : Unk) → UnkFits names bytes u → length u.store ≤ max_detail_bytes
details_fit names bytes u f = let a = store_short names bytes u f in omega (arith, f.short)

-- ---- at an entry's offset

details_there : (e : Entry) (more store : List ℕ) (at : ℕ) → length e.details < suc max_u32 → drop at store ≡ stored e ++ more → details_at store at ≡ e.details
unfolding details_at stored
details_there e more store at small h =
    let n : ℕ = length e.details in
    let d : drop (at + length_bytes) store ≡ e.details ++ more = sym (drop-drop length_bytes at store) ∙ ap (drop length_bytes) h in
    let t : take length_bytes (drop at store) ≡ le length_bytes n = ap (take length_bytes) h in
    ap₂ (λ x y. take (value x) y) t d
    ∙ ap (λ k. take k (e.details ++ more)) (value_le length_bytes n small)
    ∙ take-append_seam e.details more

-- `pre` holds what is stored before these entries
details_behind : (es : List Entry) (pre : List ℕ) (k : ℕ) → length (joined (map stored es)) < suc max_u32
    → Option.map (details_at (pre ++ joined (map stored es))) (get_elem? (offsets_from (length pre) (map stored es)) k) ≡ Option.map (λ e. e.details) (get_elem? es k)
details_behind [] pre k small = refl
details_behind (e ∷ es) pre zero small =
    let a = length-append (stored e) (joined (map stored es)) in
    let b = stored_length e in
    ap some (details_there e (joined (map stored es)) (pre ++ (stored e ++ joined (map stored es))) (length pre) (omega arith)
    (drop-append_seam pre (stored e ++ joined (map stored es))))
details_behind (e ∷ es) pre (suc k) small =
    let a = length-append (stored e) (joined (map stored es)) in
    ap₂ (λ s at. Option.map (details_at s) (get_elem? (offsets_from at (map stored es)) k))
    (sym (append_assoc pre (stored e) (joined (map stored es)))) (sym (length-append pre (stored e)))
    ∙ details_behind es (pre ++ stored e) k (omega arith)

-- the details found by an entry's number are that entry's, and none are found where there is no such entry
pub details_are : (names : List (List ℕ)) (bytes : List ℕ) (u : Unk) (f : UnkFits names bytes u) (k : ℕ)
    → details_of u k ≡ Option.map (λ e. e.details) (get_elem? f.entries k)
unfolding details_of unk_of
details_are names bytes u f k =
    let a = store_short names bytes u f in
    let b = f.short in
    let e : u.store ≡ joined (map stored f.entries) = ap (λ v. v.store) f.says in
    let c = ap length e in
    ap (λ v. details_of v k) f.says ∙ details_behind f.entries [] k (omega arith)

pub word_is : (names : List (List ℕ)) (bytes : List ℕ) (u : Unk) (f : UnkFits names bytes u) (k : ℕ)
    → word_of u k ≡ Option.map (λ e. (e.left, e.right, e.cost)) (get_elem? f.entries k)
unfolding unk_of
word_is names bytes u f k = ap (λ v. word_of v k) f.says ∙ found_map (λ e. (e.left, e.right, e.cost)) f.entries k

-- 15: an entry's number is unknown exactly from the number of entries on
pub entry_unknown : (names : List (List ℕ)) (bytes : List ℕ) (u : Unk) (f : UnkFits names bytes u) (k : ℕ) → (word_of u k ≡ none) ↔ (length f.entries ≤ k)
entry_unknown names bytes u f k = unknown_from (λ e. (e.left, e.right, e.cost)) f.entries k (word_of u k) (word_is names bytes u f k)

pub details_unknown : (names : List (List ℕ)) (bytes : List ℕ) (u : Unk) (f : UnkFits names bytes u) (k : ℕ) → (details_of u k ≡ none) ↔ (length f.entries ≤ k)
details_unknown names bytes u f k = unknown_from (λ e. e.details) f.entries k (details_of u k) (details_are names bytes u f k)
