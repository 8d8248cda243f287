-- An entry written: four writes are one patch. Assumes nothing.
use Prim.Native.Nat.{ℕ, ◌+◌, ◌≤◌}
use mathlib.Core.Path.{◌≡◌, ap, ◌∙◌}
use mathlib.Core.List.{List}
use lib.ListN.{length}
use Rattle.paper.specs.Numbers.Bytes.{le}
use Rattle.paper.specs.Tables.Lent.{patch}
use Rattle.paper.proofs.Tables.Append.{four_puts}
use Rattle.unk_enter.specs.Fields.{word_bytes}

-- four numbers, written one after another
pub word_put : (at a b c d : ℕ) (l l₁ l₂ l₃ l₄ : List ℕ) → at + 8 ≤ length l
    → l₁ ≡ patch at (le 2 a) l → l₂ ≡ patch (at + 2) (le 2 b) l₁ → l₃ ≡ patch (at + 4) (le 2 c) l₂ → l₄ ≡ patch (at + 6) (le 2 d) l₃
    → l₄ ≡ patch at (word_bytes a b c d) l
unfolding word_bytes
word_put at a b c d l l₁ l₂ l₃ l₄ h p q r s = four_puts at a b c d l l₁ l₂ l₃ l₄ h p q r s

pub with_mark : (at l r c : ℕ) (t : List ℕ) {j k : ℕ} {x : List ℕ} → x ≡ patch at (word_bytes l r c j) t → j ≡ k → x ≡ patch at (word_bytes l r c k) t
with_mark at l r c t e h = e ∙ ap (λ m. patch at (word_bytes l r c m) t) h
