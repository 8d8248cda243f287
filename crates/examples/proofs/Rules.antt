-- The limits of a pack's rules, each kept and passed by one.
-- Assumes nothing.
use Prim.Native.Nat.{ℕ, zero, suc, ◌+◌, ◌/◌, ◌%◌}
use mathlib.Core.Path.{◌≡◌, refl}
use mathlib.Core.Bool.{true, false}
use mathlib.Core.List.{List, [], ◌∷◌, map}
use lib.ListN.{replicate}
use Rattle.paper.specs.Computed.Rules.{keeps_rules}
use Rattle.paper.proofs.Examples.Rules.{RulesExample, named, defined, ranged, long, refers}

-- k names of two ASCII letters, all different
abbrev letters : ℕ → List (List ℕ)
letters zero = []
letters (suc k) = ((0x41 + k / 26) ∷ (0x41 + k % 26) ∷ []) ∷ letters k

unfoldable pub readings : List RulesExample
readings =
    -- 512 categories and one more
    named (letters 512) true
    ∷ named (letters 513) false
    -- 16,384 name bytes and one more, in one name and in two
    ∷ named (replicate 16384 0x41 ∷ []) true
    ∷ named (replicate 16385 0x41 ∷ []) false
    ∷ named ((0x42 ∷ []) ∷ replicate 16383 0x41 ∷ []) true
    ∷ named ((0x42 ∷ []) ∷ replicate 16384 0x41 ∷ []) false
    -- 512 category lines and one more
    ∷ defined (replicate 512 (long 2)) true
    ∷ defined (replicate 513 (long 2)) false
    -- 2,048 ranges and one more
    ∷ ranged [] (replicate 2048 (refers [])) true
    ∷ ranged [] (replicate 2049 (refers [])) false
    -- 8,192 references and one more, in one range and in two
    ∷ ranged ((0x41 ∷ []) ∷ []) (refers (replicate 8192 0) ∷ []) true
    ∷ ranged ((0x41 ∷ []) ∷ []) (refers (replicate 8193 0) ∷ []) false
    ∷ ranged ((0x41 ∷ []) ∷ []) (refers (0 ∷ []) ∷ refers (replicate 8191 0) ∷ []) true
    ∷ ranged ((0x41 ∷ []) ∷ []) (refers (0 ∷ []) ∷ refers (replicate 8192 0) ∷ []) false
    ∷ []

pub readings_keep : map (λ e. keeps_rules e.reading) readings ≡ map (λ e. e.keeps) readings
unfolding readings keeps_rules
readings_keep = refl
