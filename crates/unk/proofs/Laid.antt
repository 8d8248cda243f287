-- The tables that the passes leave are the layout of what the text says. Over the reading's names a mark is suc c exactly where the name is name c,
-- so the entries with that mark are those whose first field is the name; and the first list that has an entry is its mark's.
-- Assumes nothing.
use Prim.Native.Nat.{ℕ, zero, suc, ◌+◌, ◌≤◌, ◌<◌}
use native.Mathlib.Nat.{not-suc-le-zero}
use native.Mathlib.Numerals.{add-one}
use native.Mathlib.Omega.{arith}
use mathlib.Core.Path.{◌≡◌, refl, sym, ap, ap₂, ◌∙◌, subst}
use mathlib.Core.Bool.{Bool, true, false, cond, ◌||◌}
use mathlib.Core.List.{List, [], ◌∷◌, ◌++◌, map}
use mathlib.Core.Option.{Option, none, some}
use lib.Dec.{T, eqb}
use lib.ListN.{length, get_or, length-map}
use borrow.Author.Tests.{eq-eqb, ne_eqb, eqb-true}
use Rattle.paper.specs.Lists.{any, same, joined}
use Rattle.paper.specs.Rows.Lookup.{Looked, gives, refuses}
use Rattle.paper.specs.Rows.Numbers.{lowest_named, find_name}
use Rattle.paper.specs.Unk.Entry.{Entry, entries_from, unk_of}
use Rattle.paper.proofs.Apart.{zero_one}
use Rattle.paper.proofs.Lists.Facts.{T→true, true→T}
use Rattle.paper.proofs.Lists.Seen.{same_eq, same_refl}
use Rattle.paper.proofs.Rows.Lowest.{lowest_first}
use Rattle.unk.specs.Layout.{mark_among, entry_table, layout}
use Rattle.unk_enter.specs.Fields.{word_bytes}
use Rattle.unk_enter.specs.Lines.{mark_said, mark_in, entry_bytes}
use Rattle.unk_members.specs.Members.{having, lists_from, place_table, member_table}
use Rattle.unk.specs.Filled.{marks_of, laid_out}
use Rattle.unk.proofs.Room.{tables_is}
use Rattle.unk.proofs.Fill.{mark_most}

-- ---- the first list that has an entry

having_above : (v j k : ℕ) (ms : List ℕ) → k < j → any (eqb k) (having v j ms) ≡ false
having_above v j k [] h = refl
having_above v j k (m ∷ ms) h = go (eqb m v) (having_above v (suc j) k ms (omega arith))
  where
    go : (b : Bool) → any (eqb k) (having v (suc j) ms) ≡ false → any (eqb k) (cond b (j ∷ having v (suc j) ms) (having v (suc j) ms)) ≡ false
    go true ih = ap (λ b. b || any (eqb k) (having v (suc j) ms)) (ne_eqb k j (λ e. omega arith)) ∙ ih
    go false ih = ih

any_having : (v j k : ℕ) (ms : List ℕ) → k < length ms → any (eqb (j + k)) (having v j ms) ≡ eqb (get_or ms k 0) v
any_having v j k [] h = absurd (not-suc-le-zero h)
any_having v j zero (m ∷ ms) h = go (eqb m v)
  where
    go : (b : Bool) → any (eqb (j + 0)) (cond b (j ∷ having v (suc j) ms) (having v (suc j) ms)) ≡ b
    go true = ap (λ b. b || any (eqb (j + 0)) (having v (suc j) ms)) (eq-eqb (j + 0) j (omega arith))
    go false = having_above v (suc j) (j + 0) ms (omega arith)
any_having v j (suc k) (m ∷ ms) h =
    go (eqb m v) (ap (λ n. any (eqb n) (having v (suc j) ms)) e ∙ any_having v (suc j) k ms (omega arith))
  where
    e : j + suc k ≡ suc j + k
    e = omega (arith, add-one k, add-one j)

    go : (b : Bool) → any (eqb (j + suc k)) (having v (suc j) ms) ≡ eqb (get_or ms k 0) v
        → any (eqb (j + suc k)) (cond b (j ∷ having v (suc j) ms) (having v (suc j) ms)) ≡ eqb (get_or ms k 0) v
    go true ih = ap (λ b. b || any (eqb (j + suc k)) (having v (suc j) ms)) (ne_eqb (j + suc k) j (λ q. omega (arith, add-one k))) ∙ ih
    go false ih = ih

module _ (ms : List ℕ) (k : ℕ) (h : k < length ms) where
  listed_by : (c : ℕ) → any (eqb k) (having (suc c) 0 ms) ≡ eqb (get_or ms k 0) (suc c)
  listed_by c = ap (λ n. any (eqb n) (having (suc c) 0 ms)) (let z : k ≡ 0 + k = omega arith in z) ∙ any_having (suc c) 0 k ms h

  among_none : (c n : ℕ) → get_or ms k 0 ≤ c → mark_among c (lists_from c n ms) k ≡ 0
  among_none c zero g = refl
  among_none c (suc n) g =
      ap (λ b. cond b (suc c) (mark_among (suc c) (lists_from (suc c) n ms) k)) (listed_by c ∙ ne_eqb (get_or ms k 0) (suc c) (λ e. omega arith))
      ∙ among_none (suc c) n (omega arith)

  among_own : (c n j : ℕ) → j < n → get_or ms k 0 ≡ suc (c + j) → mark_among c (lists_from c n ms) k ≡ suc (c + j)
  among_own c zero j g e = absurd (not-suc-le-zero g)
  among_own c (suc n) zero g e =
      let z : suc c ≡ suc (c + 0) = omega arith in
      ap (λ b. cond b (suc c) (mark_among (suc c) (lists_from (suc c) n ms) k)) (listed_by c ∙ eq-eqb (get_or ms k 0) (suc c) (e ∙ sym z)) ∙ z
  among_own c (suc n) (suc j) g e =
      let z : suc (suc c + j) ≡ suc (c + suc j) = omega (arith, add-one c, add-one j, add-one (c + suc j), add-one (suc c + j)) in
      ap (λ b. cond b (suc c) (mark_among (suc c) (lists_from (suc c) n ms) k))
      (listed_by c ∙ ne_eqb (get_or ms k 0) (suc c) (λ q. omega (arith, add-one c, add-one j, add-one (c + suc j))))
      ∙ among_own (suc c) n j (omega arith) (e ∙ sym z) ∙ z

  pub among_is : (count : ℕ) → get_or ms k 0 ≤ count → mark_among 0 (lists_from 0 count ms) k ≡ get_or ms k 0
  among_is count g = go (get_or ms k 0) refl g
    where
      go : (m : ℕ) → get_or ms k 0 ≡ m → m ≤ count → mark_among 0 (lists_from 0 count ms) k ≡ m
      go zero e g = among_none 0 count (omega arith)
      go (suc j) e g = let z : suc j ≡ suc (0 + j) = omega arith in among_own 0 count j (omega arith) (e ∙ z) ∙ sym z

-- ---- the entry table

entries_are : (mark : List ℕ → ℕ) (members : List (List ℕ)) (k : ℕ) (es : List Entry)
    → ((j : ℕ) → j < length es → mark_among 0 members (k + j) ≡ get_or (marks_of mark es) j 0)
    → entry_table members k (map (λ e. (e.left, e.right, e.cost)) es) ≡ joined (map (entry_bytes mark) es)
unfolding entry_table
entries_are mark members k [] f = refl
entries_are mark members k (e ∷ es) f =
    let z : k + 0 ≡ k = omega arith in
    ap₂ (λ m l. word_bytes e.left e.right e.cost m ++ l)
    (ap (mark_among 0 members) (sym z) ∙ f 0 (omega arith))
    (entries_are mark members (suc k) es (λ j h. ap (mark_among 0 members) (let y : suc k + j ≡ k + suc j = omega (arith, add-one k, add-one j) in y) ∙ f (suc j) (omega arith)))

-- ---- over the reading's names

-- a name is found under its own number and no other
pub record Named (store table : List ℕ) (count : ℕ) (names : List (List ℕ)) : Type 0 where
  pub found : (x : List ℕ) → find_name store table count x ≡ gives (lowest_named x names)
  pub back : (k : ℕ) → k < length names → find_name store table count (get_or names k []) ≡ gives (some k)
  pub counted : length names ≡ count

both_ways : (a b : Bool) → (T a → T b) → (T b → T a) → a ≡ b
both_ways true b f g = sym (T→true b (f tt))
both_ways false true f g = absurd (g tt)
both_ways false false f g = refl

module _ {store table : List ℕ} {count : ℕ} {names : List (List ℕ)} (z : Named store table count names) where
  own_name : (c : ℕ) → c < length names → (x : List ℕ) → eqb (mark_in store table count x) (suc c) ≡ same (get_or names c []) x
  unfolding mark_in
  own_name c h x = both_ways (eqb (mark_said (find_name store table count x)) (suc c)) (same (get_or names c []) x) to from
    where
      said : (r : Looked (Option ℕ)) → mark_said r ≡ suc c → r ≡ gives (some c)
      said (gives none) e = zero_one (absurd (omega arith))
      said (gives (some k)) e = ap (λ j. gives (some j)) (let q : k ≡ c = omega arith in q)
      said (refuses n) e = zero_one (absurd (omega arith))

      to : T (eqb (mark_said (find_name store table count x)) (suc c)) → T (same (get_or names c []) x)
      to t =
          let f : find_name store table count x ≡ gives (some c) = said (find_name store table count x) (eqb-true (mark_said (find_name store table count x)) (suc c) (T→true _ t)) in
          let g : lowest_named x names ≡ some c = (let p : gives (lowest_named x names) ≡ gives (some c) = sym (z.found x) ∙ f in cc) in
          let q : get_or names c [] ≡ x = (lowest_first x names c g).there in
          subst (λ y. T (same (get_or names c []) y)) q (same_refl (get_or names c []))

      from : T (same (get_or names c []) x) → T (eqb (mark_said (find_name store table count x)) (suc c))
      from t =
          let q : get_or names c [] ≡ x = same_eq (get_or names c []) x t in
          true→T _ (eq-eqb _ (suc c) (ap (λ y. mark_said (find_name store table count y)) (sym q) ∙ ap mark_said (z.back c h)))

  having_is : (c : ℕ) (n : List ℕ) → ((x : List ℕ) → eqb (mark_in store table count x) (suc c) ≡ same n x) → (k : ℕ) (es : List Entry)
      → having (suc c) k (marks_of (mark_in store table count) es) ≡ entries_from k n es
  having_is c n f k [] = refl
  having_is c n f k (e ∷ es) = ap₂ (λ b l. cond b (k ∷ l) l) (f e.category) (having_is c n f (suc k) es)

  lists_from_lem : (es : List Entry) (c : ℕ) (ns : List (List ℕ)) → ((j : ℕ) → j < length ns → (x : List ℕ) → eqb (mark_in store table count x) (suc (c + j)) ≡ same (get_or ns j []) x)
      → lists_from c (length ns) (marks_of (mark_in store table count) es) ≡ map (λ n. entries_from 0 n es) ns
  lists_from_lem es c [] f = refl
  lists_from_lem es c (n ∷ ns) f =
      let y : c + 0 ≡ c = omega arith in
      ap₂ (λ x l. x ∷ l) (having_is c n (λ x. ap (λ k. eqb (mark_in store table count x) (suc k)) (sym y) ∙ f 0 (omega arith) x) 0 es)
      (lists_from_lem es (suc c) ns (λ j h x. ap (λ k. eqb (mark_in store table count x) (suc k)) (let q : suc c + j ≡ c + suc j = omega (arith, add-one c, add-one j) in q) ∙ f (suc j) (omega arith) x))

  lists_are : (es : List Entry) → lists_from 0 count (marks_of (mark_in store table count) es) ≡ map (λ n. entries_from 0 n es) names
  lists_are es =
      ap (λ k. lists_from 0 k (marks_of (mark_in store table count) es)) (sym z.counted)
      ∙ lists_from_lem es 0 names (λ j h x. ap (λ k. eqb (mark_in store table count x) (suc k)) (let q : 0 + j ≡ j = omega arith in q) ∙ own_name j h x)

  -- the tables of the entries are the layout of what they say
  pub laid_out_is : (es : List Entry) → laid_out (mark_in store table count) count es ≡ layout (unk_of names es)
  unfolding laid_out layout unk_of place_table member_table
  laid_out_is es =
      let l = lists_are es in
      tables_is (layout (unk_of names es)) _ _ _ _ _
      (sym (entries_are (mark_in store table count) (map (λ n. entries_from 0 n es) names) 0 es
      (λ j h. ap (λ (kss : List (List ℕ)). mark_among 0 kss (0 + j)) (sym l)
      ∙ ap (mark_among 0 (lists_from 0 count (marks_of (mark_in store table count) es))) (let q : 0 + j ≡ j = omega arith in q)
      ∙ among_is (marks_of (mark_in store table count) es) j (omega (arith, length-map es (λ e. mark_in store table count e.category))) count (small es j))))
      refl refl (ap (λ (kss : List (List ℕ)). place_table (map length kss)) l) (ap member_table l)
    where
      small : (es : List Entry) (j : ℕ) → get_or (marks_of (mark_in store table count) es) j 0 ≤ count
      small [] j = omega arith
      small (e ∷ es) zero = mark_most store table count e.category
      small (e ∷ es) (suc j) = small es j
