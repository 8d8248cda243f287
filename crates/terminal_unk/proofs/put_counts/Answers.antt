-- `terminal_unk::put_counts` meets its contract: two numbers one behind another. Assumes nothing.
use mathlib.Core.Path.{ap, ◌∙◌}
use Rattle.paper.specs.Numbers.Bytes.{le}
use Rattle.paper.specs.Tables.Lent.{patch}
use Rattle.terminal_unk.proofs.Whole.{count_patches}
use Rattle.terminal_unk.proofs.put_counts.Goals as goal

pub returns : goal.returns
returns c = c.put_u32.ensures ∙ ap (patch 2 (le 4 _)) c.put_u16.ensures ∙ count_patches _ _ _ c.requires.unk_counts_size_in_bounds
