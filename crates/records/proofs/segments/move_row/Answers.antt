-- `move_row` meets its contract: six reads, then six stores. Assumes nothing.
use mathlib.Core.Path.{refl}
use native.Mathlib.Omega.{arith}
use lib.ListN.{length-set}
use Rattle.records.proofs.segments.move_row.Goals as goal

pub bounds-cells-to-2 : goal.bounds-cells-to-2
bounds-cells-to-2 c =
    simp length-set (omega arith)

pub bounds-cells-to-3 : goal.bounds-cells-to-3
bounds-cells-to-3 c =
    simp length-set (omega arith)

pub bounds-cells-to-4 : goal.bounds-cells-to-4
bounds-cells-to-4 c =
    simp length-set (omega arith)

pub bounds-cells-to-5 : goal.bounds-cells-to-5
bounds-cells-to-5 c =
    simp length-set (omega arith)

pub bounds-cells-to-6 : goal.bounds-cells-to-6
bounds-cells-to-6 c =
    simp length-set (omega arith)

pub shape_of-cells : goal.shape_of-cells
shape_of-cells c =
    simp length-set refl
