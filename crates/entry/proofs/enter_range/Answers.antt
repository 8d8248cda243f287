-- `entry::enter_range` meets its contract: each way through is a case of `Entered`.
-- Assumes nothing.
use native.Mathlib.Omega.{arith}
use lib.ListN.{take, drop}
use Rattle.std.proofs.lemmas.Result.{err_from_is_err_and}
use Rattle.entry.specs.Steps.{words_of}
use Rattle.entry.proofs.Entered.{line_ranges_full, line_references_full, line_no_name, line_range}
use Rattle.entry.proofs.enter_range.Goals as goal

pub returns-then-n-ge-MAX_RANGES : goal.returns-then-n-ge-MAX_RANGES
returns-then-n-ge-MAX_RANGES c r z = let a = c.args in let ws = words_of (drop a.line.names.start (take a.line.names.end a.text.now)) in line_ranges_full z a.line.lower a.line.upper ws (omega arith)

pub returns-then-first-words : goal.returns-then-first-words
returns-then-first-words c r z = let a = c.args in let ws = words_of (drop a.line.names.start (take a.line.names.end a.text.now)) in let e = c.count_words-words.ensures in let f = z.references_few in let i = c.if-first-words.true in line_references_full z a.line.lower a.line.upper ws (omega arith) (omega arith)

pub enter_names-requires : goal.enter_names-requires
enter_names-requires c = let p = c.requires.working in let q = c.requires.inside in let e = c.count_words-words.ensures in let f = p.held.references_few in let i = c.if-first-words.false in let s = p.store_long in let t = p.slots_long in let u = p.references_long in record { store_long = omega arith; slots_long = omega arith; names = p.reading.names; laid = p.held.names; order = q.order; within = q.within; room = omega arith; few = omega arith }

pub overflow_cast-first : goal.overflow_cast-first
overflow_cast-first c = let f = c.requires.working.held.references_few in omega arith

pub append_range-requires : goal.append_range-requires
append_range-requires c = let f = c.requires.working.ranges_long in let i = c.if-n-ge-MAX_RANGES.false in omega arith

pub returns-in_err-named : goal.returns-in_err-named
returns-in_err-named c =
    let a = c.args in
    let ws = words_of (drop a.line.names.start (take a.line.names.end a.text.now)) in
    let e = c.count_words-words.ensures in
    let i = c.if-first-words.false in
    let p = err_from_is_err_and c.from_residual.result c.from_residual.ensures.1 in
    rw (p.1, p.2)
    (λ r z. let f = z.references_few in line_no_name z a.line.lower a.line.upper ws (omega arith) (omega arith) _ (c.in_err-named.ensures r.names z.names))

pub returns : goal.returns
returns c r z = let a = c.args in let ws = words_of (drop a.line.names.start (take a.line.names.end a.text.now)) in let e = c.count_words-words.ensures in let f = z.references_few in let i = c.if-first-words.false in line_range z a.line.lower a.line.upper ws (omega arith) (omega arith) _ _ _ _ (c.in_ok-named.named) (c.in_ok-named.ensures r.names z.names) (c.count_words-words.result) (c.count_words-words.ensures) (c.append_range.ensures)
