-- Lines as bytes, in the paper's terms: they read as the paper reads their characters. Assumes nothing.
use Prim.Native.Nat.{ℕ, suc}
use mathlib.Core.Path.{◌≡◌, refl, ap, ◌∙◌}
use mathlib.Core.List.{List, [], ◌∷◌, map}
use Rattle.paper.specs.Text.Scalar.{utf8}
use Rattle.paper.specs.CharDef.Reading.{Reading}
use Rattle.paper.specs.Computed.ReadText.{Step, go_on, stop, after_line, verdict, read_lines}
use Rattle.entry.proofs.Inside.{verdict_bytes}
use Rattle.lines.specs.Lines.{read_bytes}

pub read_bytes_lem : (k : ℕ) (css : List (List ℕ)) (r : Reading) → read_bytes k (map utf8 css) r ≡ read_lines k css r
unfolding read_bytes read_lines
read_bytes_lem k [] r = refl
read_bytes_lem k (cs ∷ css) r =
    ap (λ (s : Step). after_line k s (λ r'. read_bytes (suc k) (map utf8 css) r')) (verdict_bytes r cs)
    ∙ go (verdict r cs) (λ r'. read_bytes_lem (suc k) css r')
  where
    go : (s : Step) → ((r' : Reading) → read_bytes (suc k) (map utf8 css) r' ≡ read_lines (suc k) css r')
        → after_line k s (λ r'. read_bytes (suc k) (map utf8 css) r') ≡ after_line k s (λ r'. read_lines (suc k) css r')
    go (stop n) ih = refl
    go (go_on r') ih = ih r'
