-- `put` of a cue meets its contract: its parts, one after the other. Assumes nothing.
use mathlib.Core.Path.{◌≡◌, refl, ap, ◌∙◌}
use native.Mathlib.Omega.{arith}
use lib.ListN.{length, length-set}
use lib.Seq.{append_snoc, length-sets}
use Rattle.track.specs.Layout.{optional_cells, rows_cells, cue_cells}
use Rattle.records.proofs.Storing.{first, then, then_cell, optional-wide}
use Rattle.records.proofs.cues.CueRow.put.Goals as goal

pub put_rows-requires : goal.put_rows-requires
put_rows-requires c =
    (simp length-set (omega arith), c.requires.1.2)

pub put_rows-requires-2 : goal.put_rows-requires-2
put_rows-requires-2 c =
    let e : length c.put_rows.new.cells ≡ length c.put_optional-2.new.cells =
    ap length c.put_rows.ensures ∙ simp (length-sets, length-set) in
    let f : length c.put_optional-2.new.cells ≡ length c.put_optional.new.cells = ap length c.put_optional-2.ensures ∙ simp length-sets in
    let g : length c.put_optional.new.cells ≡ length c.args.table.now = ap length c.put_optional.ensures ∙ simp length-sets in
    (omega (arith, e, f, g, c.requires.0), c.requires.1.3)

pub returns : goal.returns
unfolding cue_cells
returns c =
    let a = first c.args.table.now c.args.at (optional_cells c.args.self.has_style c.args.self.style) c.put_optional.ensures
    (optional-wide c.args.self.has_style c.args.self.style) in
    let b = then a (optional_cells c.args.self.has_region c.args.self.region) c.put_optional-2.ensures (optional-wide c.args.self.has_region c.args.self.region) in
    let d = then (then_cell b c.flag_cell.ensures) (rows_cells c.args.self.segments) c.put_rows.ensures refl in
    rw append_snoc at (then d (rows_cells c.args.self.extras) c.put_rows-2.ensures refl).is
