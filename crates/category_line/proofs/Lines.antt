-- A category line from its words: what four words make of it, and any other number of them.
-- Assumes nothing.
use Prim.Native.Nat.{ℕ}
use mathlib.Core.Path.{◌≡◌, refl, sym, ap, ap₂, ◌∙◌}
use mathlib.Core.Logic.{◌≢◌}
use mathlib.Core.Bool.{false}
use mathlib.Core.Option.{Option, none, some}
use lib.Dec.{eqb}
use mathlib.Core.List.{List, [], ◌∷◌}
use lib.ListN.{length}
use Rattle.paper.specs.Refusals.{category_fields, category_number}
use Rattle.paper.specs.Sizes.{max_u32, line_fields}
use Rattle.paper.specs.Computed.Numeral.{numeral}
use Rattle.paper.specs.Computed.ReadText.{Found, wrong, from_numbers, category_of}
use Rattle.paper.specs.Numbers.Numeral.{decimal}
use Rattle.scan.specs.declared.Part.{Part}
use Rattle.scan.specs.Answer.{part, bytes_of}
use Rattle.scan.proofs.Places.{words_in}
use Rattle.category_line.specs.declared.Four.{Four}
use Rattle.category_line.specs.Answer.{Says}
use Rattle.category_line.specs.Asked.{FourWords}
use Rattle.std.specs.Prelude.{Err, Ok}
use Rattle.category_line.specs.declared.Line.TheVariants.{Category}

pub says_refused : {l : List ℕ} {b : Part} {f : Found} {k : ℕ} → wrong k ≡ f → Says l b f (Err k)
says_refused e = record { says = e; placed = tt }

not_four : (ws : List (List ℕ)) → length ws ≢ line_fields → category_of ws ≡ wrong category_fields
unfolding category_of
not_four [] n = refl
not_four (a ∷ []) n = refl
not_four (a ∷ b ∷ []) n = refl
not_four (a ∷ b ∷ c ∷ []) n = refl
not_four (a ∷ b ∷ c ∷ d ∷ []) n = absurd (n refl)
not_four (a ∷ b ∷ c ∷ d ∷ e ∷ r) n = refl

pub says_not_four : {l : List ℕ} {b : Part} (ws : List (List ℕ)) → length ws ≢ line_fields → Says l b (category_of ws) (Err category_fields)
says_not_four ws n = says_refused (sym (not_four ws n))

module _ {l : List ℕ} {start end : ℕ} {f : Four} (h : FourWords l start end f) where
  by_numbers : {i g n : Option ℕ}
      → numeral decimal max_u32 (bytes_of l f.invoke) ≡ i → numeral decimal max_u32 (bytes_of l f.group) ≡ g → numeral decimal max_u32 (bytes_of l f.length) ≡ n
      → category_of (words_in false l start end) ≡ from_numbers (bytes_of l f.name) i g n
  unfolding category_of
  by_numbers p q t =
      ap category_of h.words
      ∙ ap₂ (λ x y. from_numbers (bytes_of l f.name) x y (numeral decimal max_u32 (bytes_of l f.length))) p q
      ∙ ap (from_numbers (bytes_of l f.name) _ _) t

  pub says_no_invoke : numeral decimal max_u32 (bytes_of l f.invoke) ≡ none → Says l (part start end) (category_of (words_in false l start end)) (Err category_number)
  says_no_invoke p = says_refused (sym (by_numbers p refl refl))

  module _ {i : ℕ} (p : numeral decimal max_u32 (bytes_of l f.invoke) ≡ some i) where
    pub says_no_group : numeral decimal max_u32 (bytes_of l f.group) ≡ none → Says l (part start end) (category_of (words_in false l start end)) (Err category_number)
    says_no_group q = says_refused (sym (by_numbers p q refl))

    module _ {g : ℕ} (q : numeral decimal max_u32 (bytes_of l f.group) ≡ some g) where
      pub says_no_length : numeral decimal max_u32 (bytes_of l f.length) ≡ none → Says l (part start end) (category_of (words_in false l start end)) (Err category_number)
      says_no_length t = says_refused (sym (by_numbers p q t))

      pub says_four : {n : ℕ} → numeral decimal max_u32 (bytes_of l f.length) ≡ some n
          → Says l (part start end) (category_of (words_in false l start end)) (Ok (Category (record { invoke = eqb i 1; group = eqb g 1; length = n; name = f.name })))
      says_four t = record { says = sym (by_numbers p q t); placed = h.name }
