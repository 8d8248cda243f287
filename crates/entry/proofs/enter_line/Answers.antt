-- `entry::enter_line` meets its contract: the answer's cases do what the paper's line does, and its places lie in the text.
-- Assumes nothing.
use mathlib.Core.Path.{ap, ◌∙◌}
use Rattle.category_line.specs.declared.Line.TheVariants.{Blank, Category, Range}
use Rattle.std.proofs.lemmas.Result.{err_from_is_err_and}
use Rattle.entry.proofs.Inside.{says_as, does_refuse, does_nothing, does_category, does_range, name_inside, names_inside}
use Rattle.entry.proofs.enter_line.Goals as goal
use Rattle.std.specs.Prelude.{Err, Ok}

pub enter_category-requires : goal.enter_category-requires
enter_category-requires c = let a = c.args in record { working = c.requires.working; inside = name_inside a.text.now a.start a.end _ (c.requires.inside) (says_as (Ok (Category (c.in-Category.x))) (c.in_ok-read_line.was ∙ ap Ok (c.in-Category.is)) (c.read_line.ensures)).placed }

pub enter_range-requires : goal.enter_range-requires
enter_range-requires c = let a = c.args in record { working = c.requires.working; inside = names_inside a.text.now a.start a.end _ (c.requires.inside) (says_as (Ok (Range (c.in-Range.x))) (c.in_ok-read_line.was ∙ ap Ok (c.in-Range.is)) (c.read_line.ensures)).placed }

pub returns-in_err-read_line : goal.returns-in_err-read_line
returns-in_err-read_line c =
    let p = err_from_is_err_and c.from_residual.result c.from_residual.ensures.1 in
    rw (p.1, p.2)
    (λ r z. does_refuse _ (c.in_err-read_line.ensures) r)

pub returns-in-Blank : goal.returns-in-Blank
returns-in-Blank c r z = record { after = r; goes = does_nothing (says_as (Ok Blank) (c.in_ok-read_line.was ∙ ap Ok (c.in-Blank.is)) (c.read_line.ensures)) r; held = z }

pub returns-in-Category : goal.returns-in-Category
returns-in-Category c = let a = c.args in does_category _ _ _ (c.in-Category.x) (says_as (Ok (Category (c.in-Category.x))) (c.in_ok-read_line.was ∙ ap Ok (c.in-Category.is)) (c.read_line.ensures)) (record { store = a.names.now; slots = a.slots.now; definitions = a.definitions.now; ranges = a.ranges.now; references = a.references.now }) a.counts (record { store = c.enter_category.new.names; slots = c.enter_category.new.slots; definitions = c.enter_category.new.definitions; ranges = a.ranges.now; references = a.references.now }) (c.enter_category.result) (c.enter_category.ensures)

pub returns-in-Range : goal.returns-in-Range
returns-in-Range c = let a = c.args in does_range _ _ _ (c.in-Range.x) (says_as (Ok (Range (c.in-Range.x))) (c.in_ok-read_line.was ∙ ap Ok (c.in-Range.is)) (c.read_line.ensures)) (record { store = a.names.now; slots = a.slots.now; definitions = a.definitions.now; ranges = a.ranges.now; references = a.references.now }) a.counts (record { store = c.enter_range.new.names; slots = c.enter_range.new.slots; definitions = a.definitions.now; ranges = c.enter_range.new.ranges; references = c.enter_range.new.references }) (c.enter_range.result) (c.enter_range.ensures)
