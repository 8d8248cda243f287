-- `category_line::fields_of` meets its contract: the words are taken one after another.
-- Assumes nothing.
use native.Mathlib.Omega.{arith}
use Rattle.scan.proofs.Places.{a_word, count_one, word_place}
use Rattle.category_line.proofs.fields_of.Goals as goal

pub returns-in_default : goal.returns-in_default
returns-in_default c =
    let (w₁, h₁) = c.in_ok-name.ensures in
    let (w₂, h₂) = c.in_ok-invoke.ensures in
    let (w₃, h₃) = c.in_ok-group.ensures in
    let (w₄, h₄) = c.in_ok-length.ensures in
    let (w₅, h₅) = c.in_default.ensures in
    λ e. omega (arith, count_one w₁ h₁, count_one w₂ h₂, count_one w₃ h₃, count_one w₄ h₄, count_one w₅ h₅)

pub returns : goal.returns
returns c =
    let (u₁, k₁) = c.in_ok-name.ensures in
    let (u₂, k₂) = c.in_ok-invoke.ensures in
    let (u₃, k₃) = c.in_ok-group.ensures in
    let (u₄, k₄) = c.in_ok-length.ensures in
    record { words = a_word u₁ k₁ (a_word u₂ k₂ (a_word u₃ k₃ (a_word u₄ k₄ c.in-None.ensures))); name = word_place u₁ }
