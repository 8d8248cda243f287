-- The five tables of a reading that is handed in, as the paper's definitions take them.
-- Assumes nothing.
use Rattle.paper.specs.Tables.Layout.{Tables}
use Rattle.hold.specs.declared.Reading.{Reading}

abbrev pub tables : Reading → Tables
tables r =
    record {
      names = r.names.now;
      categories = r.categories.now;
      definitions = r.definitions.now;
      ranges = r.ranges.now;
      references = r.references.now;
    }
