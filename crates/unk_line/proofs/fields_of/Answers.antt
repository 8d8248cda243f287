-- `unk_line::fields_of` meets its contract: each comma found parts one field more. Assumes nothing.
use mathlib.Core.Path.{refl}
use Rattle.numeral.proofs.Smaller.{least_min}
use Rattle.unk_line.proofs.Commas.{one_field, two_fields, three_fields, four_fields}
use Rattle.unk_line.proofs.fields_of.Goals as goal

pub returns-in_err-first : goal.returns-in_err-first
returns-in_err-first c = rw c.from_residual.ensures (one_field _ _ _ _ c.requires refl c.in_err-first.ensures)

pub returns-in_err-second : goal.returns-in_err-second
returns-in_err-second c =
    let (e₁, h₁) = c.in_ok-first.ensures in
    rw c.from_residual-in_err-second.ensures (two_fields _ _ _ _ c.requires e₁ h₁ _ refl c.in_err-second.ensures)

pub returns-in_err-third : goal.returns-in_err-third
returns-in_err-third c =
    let (e₁, h₁) = c.in_ok-first.ensures in
    let (e₂, h₂) = c.in_ok-second.ensures in
    rw c.from_residual-in_err-third.ensures (three_fields _ _ _ _ c.requires e₁ h₁ _ e₂ h₂ _ refl c.in_err-third.ensures)

pub returns : goal.returns
returns c =
    let (e₁, h₁) = c.in_ok-first.ensures in
    let (e₂, h₂) = c.in_ok-second.ensures in
    let (e₃, h₃) = c.in_ok-third.ensures in
    four_fields _ _ _ _ c.requires e₁ h₁ _ e₂ h₂ _ e₃ h₃ _ c.find_byte-fourth.ensures _ (least_min _ _ c.min-more.ensures)
