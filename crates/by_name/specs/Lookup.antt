-- Finding a name over tables handed in: the paper's answer for each case of the enum.
-- Assumes nothing.
use Rattle.std.specs.Prelude.{ℕ, ◌≡◌, List}
use Rattle.std.proofs.Math.Option.{Option, none, some}
use Rattle.paper.specs.Rows.Lookup.{Looked, gives, refuses}
use Rattle.paper.specs.Rows.Numbers.{find_name}
use Rattle.std.specs.Prelude.{Err, None, Ok, Result, Some}
use Rattle.paper.specs.declared.Refusal.{Refusal}
use Rattle.std.specs.Prelude as code

abbrev pub said : Result (code.Option ℕ) Refusal → Looked (Option ℕ)
said (Ok (Some i)) = gives (some i)
said (Ok None) = gives none
said (Err r) = refuses r.number

-- a refusal's place; the answers have none
abbrev pub place_of : Result (code.Option ℕ) Refusal → ℕ
place_of (Ok (Some i)) = 0
place_of (Ok None) = 0
place_of (Err r) = r.place

pub record FindsCategory (store table : List ℕ) (count : ℕ) (name : List ℕ) (r : Result (code.Option ℕ) Refusal) : Type 0 where
  pub answer : said r ≡ find_name store table count name
  pub place : place_of r ≡ 0
