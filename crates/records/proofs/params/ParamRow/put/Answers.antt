-- `put` of a row meets its contract: two strings, one after the other. Assumes nothing.
use mathlib.Core.Path.{refl}
use Rattle.track.specs.Layout.{span_cells, param_cells}
use Rattle.records.proofs.Storing.{first, then}
use Rattle.records.proofs.params.ParamRow.put.Goals as goal

pub returns : goal.returns
unfolding param_cells
returns c =
    let a = first c.args.table.now c.args.at (span_cells c.args.self.name) c.put_span.ensures refl in
    (then a (span_cells c.args.self.value) c.put_span-2.ensures refl).is
