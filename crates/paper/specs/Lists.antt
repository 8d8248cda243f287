-- What the other files say of lists: tests over all elements, cuts, and first sights.
-- Assumes nothing.
use Rattle.std.specs.Prelude.{ℕ, zero, suc, ◌+◌, Bool, true, false, not, cond, ◌&&◌, ◌||◌, List, [], ◌∷◌, ◌++◌, eqb, length}

module _ {ℓ} {A : Type ℓ} where
  abbrev pub empty : List A → Bool
  empty [] = true
  empty (x ∷ xs) = false

  -- every element passes
  abbrev pub all : (A → Bool) → List A → Bool
  all p [] = true
  all p (x ∷ xs) = p x && all p xs

  -- one element at least, and every one passes
  abbrev pub full : (A → Bool) → List A → Bool
  full p [] = false
  full p (x ∷ xs) = p x && all p xs

  abbrev pub any : (A → Bool) → List A → Bool
  any p [] = false
  any p (x ∷ xs) = p x || any p xs

  -- nothing, or an element that passes and anything
  abbrev pub nothing_or : (A → Bool) → List A → Bool
  nothing_or p [] = true
  nothing_or p (x ∷ xs) = p x

  -- the elements that pass, in order
  abbrev pub select : (A → Bool) → List A → List A
  select p [] = []
  select p (x ∷ xs) = let r = select p xs in cond (p x) (x ∷ r) r

  abbrev pub joined : List (List A) → List A
  joined [] = []
  joined (l ∷ ls) = l ++ joined ls

  -- where each begins, of lists that stand one behind another from `at`
  abbrev pub offsets_from : ℕ → List (List A) → List ℕ
  offsets_from at [] = []
  offsets_from at (l ∷ ls) = at ∷ offsets_from (at + length l) ls

  -- `eq x y` stands for equality
  -- the elements that no element before them equals: `before` holds those passed already
  abbrev pub fresh_after : (A → A → Bool) → List A → List A → List A
  fresh_after eq before [] = []
  fresh_after eq before (x ∷ xs) =
      let r = fresh_after eq (x ∷ before) xs in
      cond (any (eq x) before) r (x ∷ r)

  -- the distinct elements in order of first sight
  abbrev pub first_seen : (A → A → Bool) → List A → List A
  first_seen eq xs = fresh_after eq [] xs

  -- how many elements stand before the first one that equals x: x's number, if it is there
  abbrev pub position_of : (A → A → Bool) → A → List A → ℕ
  position_of eq x [] = zero
  position_of eq x (y ∷ ys) = let r = suc (position_of eq x ys) in cond (eq x y) zero r

  -- one more element at the front of the first piece
  abbrev pub push : A → List (List A) → List (List A)
  push x [] = (x ∷ []) ∷ []
  push x (l ∷ ls) = (x ∷ l) ∷ ls

  -- the pieces between the elements that pass
  abbrev pub cut : (A → Bool) → List A → List (List A)
  cut p [] = [] ∷ []
  cut p (x ∷ xs) = let r = cut p xs in cond (p x) ([] ∷ r) (push x r)

  -- up to the first element that passes
  abbrev pub until : (A → Bool) → List A → List A
  until p [] = []
  until p (x ∷ xs) = let r = x ∷ until p xs in cond (p x) [] r

  -- from the first element that does not pass
  abbrev pub trim_start : (A → Bool) → List A → List A
  trim_start p [] = []
  trim_start p (x ∷ xs) = let r = trim_start p xs in cond (p x) r (x ∷ xs)

  -- up to the last element that does not pass
  abbrev pub trim_end : (A → Bool) → List A → List A
  trim_end p [] = []
  trim_end p (x ∷ xs) = let r = trim_end p xs in cond (p x && empty r) [] (x ∷ r)

-- the pieces that are not empty
abbrev pub words : {A : Type 0} → (A → Bool) → List A → List (List A)
words p xs = select (λ l. not (empty l)) (cut p xs)

abbrev pub sum : List ℕ → ℕ
sum [] = 0
sum (n ∷ ns) = n + sum ns

-- two byte strings are the same
abbrev pub same : List ℕ → List ℕ → Bool
same [] [] = true
same [] (y ∷ ys) = false
same (x ∷ xs) [] = false
same (x ∷ xs) (y ∷ ys) = eqb x y && same xs ys

-- ---- lines, as Rust's `lines`

abbrev pub is : ℕ → ℕ → Bool
is s c = eqb c s

-- no s among the bytes
abbrev pub without : ℕ → List ℕ → Bool
without s cs = all (λ c. not (is s c)) cs

-- pieces with s between them
abbrev pub join_with : ℕ → List (List ℕ) → List ℕ
join_with s [] = []
join_with s (l ∷ []) = l
join_with s (l ∷ m ∷ ls) = l ++ (s ∷ join_with s (m ∷ ls))

-- ---- distinct numbers below n are n at most

abbrev pub distinct : List ℕ → Bool
distinct [] = true
distinct (x ∷ xs) = not (any (eqb x) xs) && distinct xs
