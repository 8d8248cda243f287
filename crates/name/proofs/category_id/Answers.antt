-- `name::category_id` meets its contract: by what was found, and by the limits in their order. Assumes nothing.
use native.Mathlib.Omega.{arith}
use mathlib.Core.Path.{sym}
use lib.ListN.{take, drop}
use Rattle.paper.proofs.Lists.Parts.{part_length}
use Rattle.name.proofs.Intern.{enters_known, enters_12, enters_13, enters_new}
use Rattle.name.proofs.category_id.Goals as goal

pub returns-in-Some : goal.returns-in-Some
returns-in-Some c names z = enters_known (drop c.args.start (take c.args.end c.args.text.now)) z c.in-Some.number (c.in-Some.ensures names _ z)

pub returns-then-count-ge-MAX_CATEGORIES : goal.returns-then-count-ge-MAX_CATEGORIES
returns-then-count-ge-MAX_CATEGORIES c names z =
    let a = c.args in
    let n = drop a.start (take a.end a.text.now) in
    let p = part_length a.text.now a.start a.end (omega arith) in
    enters_12 n z (c.in_default.ensures names _ z) (omega arith)

pub returns-then-left-len : goal.returns-then-left-len
returns-then-left-len c names z =
    let a = c.args in
    let n = drop a.start (take a.end a.text.now) in
    let p = part_length a.text.now a.start a.end (omega arith) in
    enters_13 n z (c.in_default.ensures names _ z) (omega arith) (omega arith)

pub returns : goal.returns
returns c names z =
    let a = c.args in
    let n = drop a.start (take a.end a.text.now) in
    let p = part_length a.text.now a.start a.end (omega arith) in
    enters_new n z (c.in_default.ensures names _ z) (omega arith) (omega arith) _ _
    c.copy_in.ensures _ (sym p) c.add_slot.ensures _ (omega arith) (omega arith) (omega arith)
