-- `text::class` meets its contract: it reads an entry of a table that keeps the rule.
-- Assumes nothing.
use Rattle.text.proofs.class.Goals as goal

pub returns : goal.returns
returns c = rw c.from.ensures (c.requires.entry c.args.b c.ranges.b.fits)
