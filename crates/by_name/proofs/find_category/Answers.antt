-- `by_name::find_category` meets its contract: by the two tests of refusal 26, then by what was found. Assumes nothing.
use Rattle.std.proofs.Common.{rules, arith, refl}
use Rattle.by_name.proofs.Lookup.{table_short, name_past, name_sought, some_past, none_past}
use Rattle.by_name.proofs.find_category.Goals.{then-categories-count-via-then-categories-count, then-categories-count-via-else-categories-count+then-not-names_inside}
use Rattle.by_name.proofs.find_category.Goals as goal

pub returns-then-categories-count : goal.returns-then-categories-count
returns-then-categories-count c =
    let a = c.args in
    record {
      answer = elim c.then-categories-count.branch [
        | then-categories-count-via-then-categories-count w ↦ table_short a.names.now a.categories.now a.count a.name.now (omega arith)
        | then-categories-count-via-else-categories-count+then-not-names_inside w ↦
            name_past a.names.now a.categories.now a.count a.name.now (omega arith) (some_past w.names_inside.result _ w.names_inside.ensures (search rules))
      ];
      place = refl;
    }

pub find_placed-requires : goal.find_placed-requires
find_placed-requires c = record { count_in_bounds = omega arith; count_value = none_past c.names_inside.result _ c.names_inside.ensures (search rules) }

pub returns : goal.returns
returns c =
    let a = c.args in
    let inside = none_past c.names_inside.result _ c.names_inside.ensures (search rules) in
    name_sought a.names.now a.categories.now a.count a.name.now (omega arith) inside _ c.find_placed.ensures
