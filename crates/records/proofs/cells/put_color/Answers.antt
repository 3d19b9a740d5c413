-- `put_color` meets its contract: five stores. Assumes nothing.
use native.Mathlib.Omega.{arith}
use native.Mathlib.Numerals.{add-one, add-two, add-three, add-four}
use lib.ListN.{length-set}
use Rattle.track.specs.Layout.{color_cells}
use Rattle.records.proofs.cells.put_color.Goals as goal

pub bounds-cells-at-then-has : goal.bounds-cells-at-then-has
bounds-cells-at-then-has c =
    simp length-set (omega arith)

pub bounds-cells-at-then-has-2 : goal.bounds-cells-at-then-has-2
bounds-cells-at-then-has-2 c =
    simp length-set (omega arith)

pub bounds-cells-at-then-has-3 : goal.bounds-cells-at-then-has-3
bounds-cells-at-then-has-3 c =
    simp length-set (omega arith)

pub bounds-cells-at-then-has-4 : goal.bounds-cells-at-then-has-4
bounds-cells-at-then-has-4 c =
    simp length-set (omega arith)

pub bounds-cells-at-else-has-2 : goal.bounds-cells-at-else-has-2
bounds-cells-at-else-has-2 c =
    simp length-set (omega arith)

pub bounds-cells-at-else-has-3 : goal.bounds-cells-at-else-has-3
bounds-cells-at-else-has-3 c =
    simp length-set (omega arith)

pub bounds-cells-at-else-has-4 : goal.bounds-cells-at-else-has-4
bounds-cells-at-else-has-4 c =
    simp length-set (omega arith)

pub bounds-cells-at-else-has-5 : goal.bounds-cells-at-else-has-5
bounds-cells-at-else-has-5 c =
    simp length-set (omega arith)

pub returns-then-has : goal.returns-then-has
unfolding color_cells
returns-then-has c =
    rw c.if-has.true (simp (add-one, add-two, add-three, add-four))

pub returns-else-has : goal.returns-else-has
unfolding color_cells
returns-else-has c =
    rw c.if-has.false (simp (add-one, add-two, add-three, add-four))
