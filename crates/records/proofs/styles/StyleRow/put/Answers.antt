use mathlib.Core.Path.{refl}
use Rattle.track.specs.Layout.{span_cells, rows_cells, look_cells, style_cells}
use Rattle.records.proofs.Storing.{first, then, look-wide}
use Rattle.records.proofs.styles.StyleRow.put.Goals as goal

pub returns : goal.returns
unfolding style_cells
returns c =
    let a = first c.args.table.now c.args.at (span_cells c.args.self.name)
    c.put_span.ensures refl in
    let b = then a (span_cells c.args.self.chain) c.put_span-2.ensures refl
    in
    let d = then b (look_cells c.args.self.look) c.put_look.ensures (look-wide c.args.self.look) in
    (then d (rows_cells c.args.self.extras) c.put_rows.ensures refl).is
