-- `slot::add_slot` meets its contract: the word, then the hint. Assumes nothing.
use Rattle.slot.proofs.More.{added}
use Rattle.slot.proofs.add_slot.Goals as goal

pub returns : goal.returns
returns c = added c.args.slots.now _ _ _ _ _ _ _ (c.put_word.ensures) (c.word_of.ensures.0) (c.put_hint.ensures) (c.hint_at.ensures.1)
