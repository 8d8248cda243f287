-- A loop that reads entries one after another into a table: what was read, in front of what is left to read, is the whole.
-- Assumes nothing.
use Prim.Native.Nat.{ℕ, suc, ◌+◌, ◌*◌, ◌-◌, ◌≤◌, ◌<◌}
use native.Mathlib.Nat.{mul-suc}
use native.Mathlib.Numerals.{add-one}
use native.Mathlib.Omega.{arith}
use mathlib.Core.Path.{◌≡◌, refl, sym, ap, ◌∙◌}
use mathlib.Core.List.{List, [], ◌∷◌, ◌++◌, map, append_assoc, append-nil}
use lib.ListN.{length, length-append}
use Rattle.paper.specs.Lists.{joined}
use Rattle.paper.specs.Computed.ReadPack.{FieldStep, gave, broke, Reader, after_step, ◌▹◌, give, many}
use Rattle.paper.specs.Tables.Lent.{patch}
use Rattle.paper.proofs.Tables.Laws.{patch_in, patch_length, table_length}
use Rattle.paper.proofs.Tables.Append.{patch_patch, table_snoc}
use Rattle.field.specs.Cursor.{rest}
use Rattle.pack_field.specs.Parts.{Fills}

-- what was read before, in front
abbrev pub prepend : {A : Type 0} → List A → FieldStep (List A) → FieldStep (List A)
prepend xs (gave ys at s) = gave (xs ++ ys) at s
prepend xs (broke n q) = broke n q

pub prepend_more : {A : Type 0} (xs : List A) (x : A) (g : FieldStep (List A)) → prepend xs (prepend (x ∷ []) g) ≡ prepend (xs ++ (x ∷ [])) g
prepend_more xs x (gave ys at s) = ap (λ l. gave l at s) (sym (append_assoc xs (x ∷ []) ys))
prepend_more xs x (broke n q) = refl

pub prepend_none : {A : Type 0} (g : FieldStep (List A)) → g ≡ prepend [] g
prepend_none (gave ys at s) = refl
prepend_none (broke n q) = refl

pub put_first : {A : Type 0} (x : A) (g : FieldStep (List A)) → after_step g (λ xs. give (x ∷ xs)) ≡ prepend (x ∷ []) g
unfolding after_step give
put_first x (gave ys at s) = refl
put_first x (broke n q) = refl

many_on : {A : Type 0} (rd : Reader A) (k at : ℕ) (s : List ℕ) (x : A) (at₁ : ℕ) (s₁ : List ℕ) → rd at s ≡ gave x at₁ s₁
    → many (suc k) rd at s ≡ prepend (x ∷ []) (many k rd at₁ s₁)
unfolding many ◌▹◌ after_step
many_on rd k at s x at₁ s₁ e =
    ap (λ o. after_step o (λ y. ◌▹◌ (many k rd) (λ ys. give (y ∷ ys)))) e ∙ put_first x (many k rd at₁ s₁)

many_off : {A : Type 0} (rd : Reader A) (k at : ℕ) (s : List ℕ) (n q : ℕ) → rd at s ≡ broke n q → many (suc k) rd at s ≡ broke n q
unfolding many ◌▹◌ after_step
many_off rd k at s n q e = ap (λ o. after_step o (λ y. ◌▹◌ (many k rd) (λ ys. give (y ∷ ys)))) e

-- after i of n entries
pub record Going {A : Type 0} (f : A → List ℕ) (w : ℕ) (rd : Reader A) (width at₀ n start : ℕ) (p l₀ : List ℕ) (at : ℕ) (l : List ℕ) (i : ℕ) : Type 0 where
  pub all : List A
  pub upto : i ≤ n
  pub on : at ≡ at₀ + width * i
  pub size : length all ≡ i
  pub long : length l ≡ length l₀
  pub is : l ≡ patch start (joined (map f all)) l₀
  pub left : many n rd at₀ (rest p at₀) ≡ prepend all (many (n - i) rd at (rest p at))

-- entries of w bytes, fields of `width` bits in all
module _ {A : Type 0} (f : A → List ℕ) (w : ℕ) (wide : (x : A) → length (f x) ≡ w) (rd : Reader A) (width at₀ n start : ℕ) (p l₀ : List ℕ)
    (room : start + w * n ≤ length l₀) where
  pub none_yet : start ≤ length l₀ → Going f w rd width at₀ n start p l₀ at₀ l₀ 0
  none_yet k =
      let e : n ≡ n - 0 = omega arith in
      record {
        all = [];
        upto = omega arith;
        on = omega arith;
        size = refl;
        long = refl;
        is = patch_in start [] l₀ (omega arith);
        left = prepend_none (many n rd at₀ (rest p at₀)) ∙ ap (λ m. prepend [] (many m rd at₀ (rest p at₀))) e;
      }

  module _ (at : ℕ) (l : List ℕ) (i : ℕ) (z : Going f w rd width at₀ n start p l₀ at l i) where
    pub one_more : i < n → (x : A) (at₁ : ℕ) (l₁ : List ℕ) (here : ℕ) → rd at (rest p at) ≡ gave x at₁ (rest p at₁) → at₁ ≡ at + width
        → here ≡ start + w * i → w * i + w ≤ w * n → l₁ ≡ patch here (f x) l → Going f w rd width at₀ n start p l₀ at₁ l₁ (i + 1)
    one_more lt x at₁ l₁ here e o eh fits eq =
        let xs = z.all in
        let a : length (joined (map f xs)) ≡ w * length xs = table_length w f wide xs in
        let b : w * length xs ≡ w * i = ap (λ k. w * k) z.size in
        let d : length (f x) ≡ w = wide x in
        let k : n - i ≡ suc (n - (i + 1)) = omega arith in
        let j : length (xs ++ (x ∷ [])) ≡ length xs + 1 = length-append xs (x ∷ []) in
        let sz = z.size in
        let u = z.on in
        let more : width * (i + 1) ≡ width * i + width = ap (λ m. width * m) (add-one i) ∙ mul-suc width i in
        record {
          all = xs ++ (x ∷ []);
          upto = omega arith;
          on = omega arith;
          size = omega arith;
          long = ap length eq ∙ patch_length here (f x) l ∙ z.long;
          is = eq ∙ ap (patch here (f x)) z.is
              ∙ patch_patch start here (joined (map f xs)) (f x) l₀ (omega arith) (omega arith)
              ∙ ap (λ m. patch start m l₀) (sym (table_snoc f xs x));
          left = z.left ∙ ap (λ m. prepend xs (many m rd at (rest p at))) k
              ∙ ap (prepend xs) (many_on rd (n - (i + 1)) at (rest p at) x at₁ (rest p at₁) e)
              ∙ prepend_more xs x (many (n - (i + 1)) rd at₁ (rest p at₁));
        }

    pub broken_off : i < n → (m q : ℕ) → rd at (rest p at) ≡ broke m q → many n rd at₀ (rest p at₀) ≡ broke m q
    broken_off lt m q e =
        let k : n - i ≡ suc (n - (i + 1)) = omega arith in
        z.left ∙ ap (λ j. prepend z.all (many j rd at (rest p at))) k
        ∙ ap (prepend z.all) (many_off rd (n - (i + 1)) at (rest p at) m q e)

    pub all_read : n ≤ i → Fills f (many n rd at₀ (rest p at₀)) at₀ width n start p l₀ l at
    unfolding many give
    all_read le =
        let k : n - i ≡ 0 = omega arith in
        let u = z.upto in
        let sz = z.size in
        let v : i ≡ n = omega arith in
        record {
          all = z.all;
          on = z.on ∙ ap (λ m. at₀ + width * m) v;
          reads = z.left ∙ ap (λ j. prepend z.all (many j rd at (rest p at))) k ∙ ap (λ m. gave m at (rest p at)) (append-nil z.all);
          size = omega arith;
          is = z.is;
        }
