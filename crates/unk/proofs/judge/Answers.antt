-- `unk::judge` meets its contract, way by way. Assumes nothing.
use native.Mathlib.Omega.{arith}
use Rattle.hold.specs.HandedIn.{tables}
use Rattle.unk.proofs.Whole.{apart, holding, long_text, ill_text, sound}
use Rattle.unk.proofs.judge.Goals as goal

pub returns-then-not-holds : goal.returns-then-not-holds
returns-then-not-holds c = let a = c.args in
    let t = tables a.reading.now in
    apart t a.reading.now.counts a.text.now (c.holds.ensures) (c.if-not-holds.true)

pub returns-then-text-gt-MAX_TEXT_BYTES : goal.returns-then-text-gt-MAX_TEXT_BYTES
returns-then-text-gt-MAX_TEXT_BYTES c = let a = c.args in
    let t = tables a.reading.now in
    long_text t a.reading.now.counts a.text.now (holding t a.reading.now.counts a.text.now (c.holds.ensures) (c.if-not-holds.false)) (omega arith)

pub returns-then-prefix-text : goal.returns-then-prefix-text
returns-then-prefix-text c = let a = c.args in
    let t = tables a.reading.now in
    ill_text t a.reading.now.counts a.text.now (holding t a.reading.now.counts a.text.now (c.holds.ensures) (c.if-not-holds.false)) (omega arith) (c.valid_prefix-prefix.ensures) (omega arith)

pub returns : goal.returns
returns c = let a = c.args in
    let t = tables a.reading.now in
    sound t a.reading.now.counts a.text.now (holding t a.reading.now.counts a.text.now (c.holds.ensures) (c.if-not-holds.false)) (omega arith) (c.valid_prefix-prefix.ensures) (omega arith)
