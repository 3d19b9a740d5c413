-- `add_break` meets its contract: a row, if there is room.
use mathlib.Core.Path.{refl}
use native.Mathlib.Omega.{arith}
use Rattle.track.specs.Layout.{segment_cells}
use Rattle.records.proofs.segments.add_break.Goals as goal

pub returns : goal.returns
unfolding segment_cells
returns c =
    (omega arith, refl, c.put_kind.ensures)
