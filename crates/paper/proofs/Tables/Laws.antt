-- Laws of tables as bytes, over the width of an entry. Assumes nothing.
use Prim.Native.Nat.{ℕ, zero, suc, ◌+◌, ◌*◌, ◌-◌, ◌/◌, ◌%◌, ◌^◌, ◌≤◌, ◌<◌}
use native.Mathlib.Nat.{mul-suc, mul-zero, div-lt_iff_lt-mul, pow-suc}
use native.Mathlib.Numerals.{add-one}
use native.Mathlib.Omega.{arith}
use mathlib.Core.Path.{◌≡◌, refl, sym, ap, ap₂, ◌∙◌}
use mathlib.Core.Bool.{Bool, true, false, cond, ◌&&◌}
use mathlib.Core.List.{List, [], ◌∷◌, ◌++◌, map, append_assoc}
use lib.Dec.{T, leb, eqb}
use lib.ListN.{length, take, drop, get_or, length-append, length-drop, take-append-drop}
use lib.Seq.{sets, sets-eq, drop-cons, take_at, drop_at, take-add, drop-drop, take-take, length-take-le, take-nil}
use mir.Facts.{and_yes, yes_and, ltb_yes, yes_eqb}
use borrow.Author.Tests.{le-leb, lt-leb, leb-true}
use Rattle.paper.specs.Lists.{all, joined}
use Rattle.paper.specs.Numbers.Bytes.{is_byte, le, value}
use Rattle.paper.specs.Tables.Layout.{reference_size, pieces}
use Rattle.paper.specs.Tables.Lent.{num, got, patch}

-- ---- numbers

pub le_length : (w n : ℕ) → length (le w n) ≡ w
le_length zero n = refl
le_length (suc w) n = ap suc (le_length w (n / 256))

pub value_le : (w n : ℕ) → n < 256 ^ w → value (le w n) ≡ n
value_le zero n h = omega arith
value_le (suc w) n h =
    let e : value (le w (n / 256)) ≡ n / 256 = value_le w (n / 256) ((div-lt_iff_lt-mul (omega arith)).1 (omega arith)) in
    omega arith

pub le_value : (bs : List ℕ) → T (all is_byte bs) → le (length bs) (value bs) ≡ bs
le_value [] t = refl
le_value (b ∷ bs) t =
    let h = and_yes (is_byte b) (all is_byte bs) t in
    let k : b < 256 = ltb_yes h.0 in
    let x : (b + 256 * value bs) % 256 ≡ b = omega arith in
    let y : (b + 256 * value bs) / 256 ≡ value bs = omega arith in
    let z : le (length bs) (value bs) ≡ bs = le_value bs h.1 in
    ap₂ (λ (a : ℕ) (l : List ℕ). a ∷ l) x (ap (λ (v : ℕ). le (length bs) v) y ∙ z)

-- ---- parts of lists

module _ {A : Type 0} where
  pub drop_take : (k n : ℕ) (l : List A) → drop k (take (k + n) l) ≡ take n (drop k l)
  drop_take zero n l = let e : 0 + n ≡ n = omega arith in ap (λ m. take m l) e
  drop_take (suc k) n [] = ap (drop (suc k)) (take-nil (suc k + n)) ∙ sym (take-nil n)
  drop_take (suc k) n (x ∷ l) = let e : suc k + n ≡ suc (k + n) = omega arith in ap (λ m. drop (suc k) (take m (x ∷ l))) e ∙ drop_take k n l

  -- a part of a part
  pub part_part : (v k w : ℕ) (l : List A) → k + v ≤ w → take v (drop k (take w l)) ≡ take v (drop k l)
  part_part v k w l h =
      let e : w ≡ k + (w - k) = omega arith in
      ap (λ m. take v (drop k (take m l))) e ∙ ap (take v) (drop_take k (w - k) l) ∙ take-take v (w - k) (drop k l) (omega arith)

  pub all_take : (p : A → Bool) (n : ℕ) (l : List A) → T (all p l) → T (all p (take n l))
  all_take p zero l t = tt
  all_take p (suc n) [] t = tt
  all_take p (suc n) (x ∷ l) t =
      let h = and_yes (p x) (all p l) t in yes_and (p x) (all p (take n l)) h.0 (all_take p n l h.1)

  pub all_drop : (p : A → Bool) (n : ℕ) (l : List A) → T (all p l) → T (all p (drop n l))
  all_drop p zero l t = t
  all_drop p (suc n) [] t = tt
  all_drop p (suc n) (x ∷ l) t = all_drop p n l (and_yes (p x) (all p l) t).1

  pub short : (n : ℕ) (l : List A) → length (take n l) ≤ n
  short zero l = omega arith
  short (suc n) [] = omega arith
  short (suc n) (x ∷ l) = let e = short n l in omega arith

some_power : (w : ℕ) → 0 < 256 ^ w
some_power zero = omega arith
some_power (suc w) = let e = some_power w in let d : 256 ^ suc w ≡ 256 ^ w * 256 = pow-suc 256 w in omega arith

pub value_small : (w : ℕ) (bs : List ℕ) → T (all is_byte bs) → length bs ≤ w → value bs < 256 ^ w
value_small w [] t h = some_power w
value_small zero (b ∷ bs) t h = absurd (omega arith)
value_small (suc w) (b ∷ bs) t h =
    let g = and_yes (is_byte b) (all is_byte bs) t in
    let k : b < 256 = ltb_yes g.0 in
    let e : value bs < 256 ^ w = value_small w bs g.1 (omega arith) in
    let d : 256 ^ suc w ≡ 256 ^ w * 256 = pow-suc 256 w in
    omega arith

-- a number in an entry is the number at its place in the table
pub num_part : (v k w at : ℕ) (l : List ℕ) → k + v ≤ w → num v k (take w (drop at l)) ≡ num v (at + k) l
unfolding num
num_part v k w at l h =
    ap value (part_part v k w (drop at l) h ∙ ap (take v) (drop-drop k at l))

-- a field of an entry, written out again
pub field_back : (v k : ℕ) (p : List ℕ) → T (all is_byte p) → k + v ≤ length p → le v (num v k p) ++ drop (k + v) p ≡ drop k p
unfolding num
field_back v k p t h =
    let q : List ℕ = take v (drop k p) in
    let e : length (take v (drop k p)) ≡ v = length-take-le v (drop k p) (simp length-drop (omega arith)) in
    let f : le v (value (take v (drop k p))) ≡ take v (drop k p) =
    ap (λ m. le m (value (take v (drop k p)))) (sym e) ∙ le_value (take v (drop k p)) (all_take is_byte v (drop k p) (all_drop is_byte k p t)) in
    ap₂ (λ (a b : List ℕ). a ++ b) f (sym (drop-drop v k p)) ∙ take-append-drop v (drop k p)

-- ---- entries of one width

module _ {A : Type 0} (w : ℕ) (f : A → List ℕ) (wide : (x : A) → length (f x) ≡ w) where
  -- entry i of a table is the i-th element's
  pub entry_is : (before : List A) (x : A) (after : List A) (rest : List ℕ)
      → take w (drop (w * length before) (joined (map f (before ++ (x ∷ after))) ++ rest)) ≡ f x
  entry_is [] x after rest =
      rw mul-zero (ap (take w) (append_assoc (f x) (joined (map f after)) rest) ∙ take_at (f x) (joined (map f after) ++ rest) w (wide x))
  entry_is (y ∷ before) x after rest =
      let more : List ℕ = joined (map f (before ++ (x ∷ after))) ++ rest in
      let e : w * suc (length before) ≡ w + w * length before = mul-suc w (length before) ∙ omega arith in
      ap₂ (λ (m : ℕ) (l : List ℕ). take w (drop m l)) e (append_assoc (f y) (joined (map f (before ++ (x ∷ after)))) rest)
      ∙ ap (take w) (sym (drop-drop (w * length before) w (f y ++ (joined (map f (before ++ (x ∷ after))) ++ rest))))
      ∙ ap (λ l. take w (drop (w * length before) l)) (drop_at (f y) (joined (map f (before ++ (x ∷ after))) ++ rest) w (wide y))
      ∙ entry_is before x after rest

  pub pieces_table : (xs : List A) (rest : List ℕ) → pieces w (length xs) (joined (map f xs) ++ rest) ≡ map f xs
  unfolding pieces
  pieces_table [] rest = refl
  pieces_table (x ∷ xs) rest =
      let l : List ℕ = joined (map f xs) ++ rest in
      rw (
        append_assoc (f x) (joined (map f xs)) rest,
        take_at (f x) (joined (map f xs) ++ rest) w (wide x),
        drop_at (f x) (joined (map f xs) ++ rest) w (wide x),
        pieces_table xs rest,
      )

  pub table_length : (xs : List A) → length (joined (map f xs)) ≡ w * length xs
  table_length [] = sym (mul-zero w)
  table_length (x ∷ xs) =
      let a : length (f x ++ joined (map f xs)) ≡ length (f x) + length (joined (map f xs)) = length-append (f x) (joined (map f xs)) in
      let b : length (joined (map f xs)) ≡ w * length xs = table_length xs in
      let c : length (f x) ≡ w = wide x in
      let d : w * suc (length xs) ≡ w * length xs + w = mul-suc w (length xs) in
      omega arith

pub pieces_length : (w n : ℕ) (l : List ℕ) → length (pieces w n l) ≡ n
unfolding pieces
pieces_length w zero l = refl
pieces_length w (suc n) l = ap suc (pieces_length w n (drop w l))

-- a part of the references
pub part_numbers : (n k i : ℕ) (l : List ℕ) → i + k ≤ n
    → take k (drop i (map (num reference_size 0) (pieces reference_size n l))) ≡ map (num reference_size 0) (pieces reference_size k (drop (reference_size * i) l))
unfolding pieces
part_numbers n zero zero l h = refl
part_numbers zero (suc k) zero l h = absurd (omega arith)
part_numbers (suc n) (suc k) zero l h = ap (λ m. num reference_size 0 (take reference_size l) ∷ m) (part_numbers n k zero (drop reference_size l) (omega arith))
part_numbers zero k (suc i) l h = absurd (omega arith)
part_numbers (suc n) k (suc i) l h =
    let e : reference_size + reference_size * i ≡ reference_size * suc i = omega arith in
    part_numbers n k i (drop reference_size l) (omega arith)
    ∙ ap (λ m. map (num reference_size 0) (pieces reference_size k m)) (drop-drop (reference_size * i) reference_size l ∙ ap (λ m. drop m l) e)

pub joined_pieces : (w n : ℕ) (l : List ℕ) → joined (pieces w n l) ≡ take (w * n) l
unfolding pieces
joined_pieces w zero l = sym (ap (λ m. take m l) (mul-zero w))
joined_pieces w (suc n) l =
    let e : w * suc n ≡ w + w * n = mul-suc w n ∙ omega arith in
    ap (λ m. take w l ++ m) (joined_pieces w n (drop w l)) ∙ sym (take-add w (w * n) l) ∙ ap (λ m. take m l) (sym e)

-- an entry: w bytes
abbrev pub whole : ℕ → List ℕ → Bool
whole w p = eqb (length p) w && all is_byte p

pub pieces_whole : (w n : ℕ) (l : List ℕ) → T (all is_byte l) → w * n ≤ length l → T (all (whole w) (pieces w n l))
unfolding pieces
pieces_whole w zero l t h = tt
pieces_whole w (suc n) l t h =
    let e : w * suc n ≡ w * n + w = mul-suc w n in
    yes_and (whole w (take w l)) (all (whole w) (pieces w n (drop w l)))
    (yes_and (eqb (length (take w l)) w) (all is_byte (take w l)) (yes_eqb (length-take-le w l (omega arith))) (all_take is_byte w l t))
    (pieces_whole w n (drop w l) (all_drop is_byte w l t) (simp length-drop (omega arith)))

-- there and back again, element by element
pub map_back : {A B : Type 0} (ok : A → Bool) (f : A → B) (g : B → A) → ((x : A) → T (ok x) → g (f x) ≡ x) → (xs : List A) → T (all ok xs) → map g (map f xs) ≡ xs
map_back ok f g back [] t = refl
map_back ok f g back (x ∷ xs) t =
    let h = and_yes (ok x) (all ok xs) t in
    ap₂ (λ a b. a ∷ b) (back x h.0) (map_back ok f g back xs h.1)

-- ---- what a loop has left: entries from i on

unfoldable pub left : ℕ → ℕ → ℕ → List ℕ → List (List ℕ)
unfolding pieces
left w n i l = pieces w (n - i) (drop (w * i) l)

pub left_all : (w n : ℕ) (l : List ℕ) → left w n 0 l ≡ pieces w n l
unfolding left
left_all w n l = let e : n - 0 ≡ n = omega arith in ap₂ (λ a b. pieces w a (drop b l)) e (mul-zero w)

pub left_none : (w n i : ℕ) (l : List ℕ) → n ≤ i → left w n i l ≡ []
unfolding left
left_none w n i l h = ap (λ a. pieces w a (drop (w * i) l)) (let e : n - i ≡ 0 = omega arith in e)

pub left_more : (w n i : ℕ) (l : List ℕ) → i < n → left w n i l ≡ take w (drop (w * i) l) ∷ left w n (i + 1) l
unfolding left
left_more w n i l h =
    let a : n - i ≡ suc (n - (i + 1)) = omega (arith, add-one (n - (i + 1))) in
    let b : w * i + w ≡ w * (i + 1) = sym (ap (λ m. w * m) (add-one i) ∙ mul-suc w i) in
    ap (λ m. pieces w m (drop (w * i) l)) a
    ∙ ap (λ m. take w (drop (w * i) l) ∷ pieces w (n - (i + 1)) m) (drop-drop w (w * i) l ∙ ap (λ m. drop m l) b)

-- ---- reading and writing at a place

pub got_in : (w at : ℕ) (l : List ℕ) → at + w ≤ length l → got w at l ≡ num w at l
unfolding got
got_in w at l h = rw (le-leb (at + w) (length l) h)

pub got_out : (w at : ℕ) (l : List ℕ) → length l < at + w → 0 ≡ got w at l
unfolding got
got_out w at l h = rw (lt-leb (at + w) (length l) h)

-- byte by byte
pub num_none : (at : ℕ) (l : List ℕ) → num 0 at l ≡ 0
unfolding num
num_none at l = refl

pub num_more : (w at : ℕ) (l : List ℕ) → at < length l → num (suc w) at l ≡ get_or l at 0 + 256 * num w (at + 1) l
unfolding num
num_more w at l h =
    ap (λ m. value (take (suc w) m)) (drop-cons l at 0 h)
    ∙ ap (λ m. get_or l at 0 + 256 * value (take w (drop m l))) (sym (add-one at))

pub patch_in : (at : ℕ) (p l : List ℕ) → at + length p ≤ length l → sets l at p ≡ patch at p l
unfolding patch
patch_in at p l h = sets-eq p l at h ∙ rw (le-leb (at + length p) (length l) h)

pub patch_out : (at : ℕ) (p l : List ℕ) → length l < at + length p → l ≡ patch at p l
unfolding patch
patch_out at p l h = rw (lt-leb (at + length p) (length l) h)

pub patch_length : (at : ℕ) (p l : List ℕ) → length (patch at p l) ≡ length l
unfolding patch
patch_length at p l = go (leb (at + length p) (length l)) refl
  where
    go : (b : Bool) → leb (at + length p) (length l) ≡ b → length (cond b (take at l ++ p ++ drop (at + length p) l) l) ≡ length l
    go true e =
        let h : at + length p ≤ length l = leb-true (at + length p) (length l) e in
        ap length (sym (sets-eq p l at h)) ∙ lib.Seq.length-sets l at p
    go false e = refl
