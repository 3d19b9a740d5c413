-- `put` of a row meets its contract: a string and the rows of extras. Assumes nothing.
use mathlib.Core.Path.{refl}
use Rattle.track.specs.Layout.{span_cells, rows_cells, region_cells}
use Rattle.records.proofs.Storing.{first, then}
use Rattle.records.proofs.styles.RegionRow.put.Goals as goal

pub returns : goal.returns
unfolding region_cells
returns c =
    let a = first c.args.table.now c.args.at (span_cells c.args.self.id) c.put_span.ensures refl in
    (then a (rows_cells c.args.self.extras) c.put_rows.ensures refl).is
