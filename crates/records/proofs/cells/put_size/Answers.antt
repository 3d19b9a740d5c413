-- `put_size` meets its contract: three stores. Assumes nothing.
use native.Mathlib.Omega.{arith}
use native.Mathlib.Numerals.{add-one, add-two}
use lib.ListN.{length-set}
use Rattle.track.specs.Layout.{size_cells}
use Rattle.records.proofs.cells.put_size.Goals as goal
use Rattle.records.proofs.cells.put_size.Goals.{then-s, else-s}

pub bounds-cells-at-then-has : goal.bounds-cells-at-then-has
bounds-cells-at-then-has c =
    simp length-set (omega arith)

pub bounds-cells-at-then-has-2 : goal.bounds-cells-at-then-has-2
bounds-cells-at-then-has-2 c =
    simp length-set (omega arith)

pub bounds-cells-at-else-has-2 : goal.bounds-cells-at-else-has-2
bounds-cells-at-else-has-2 c =
    simp length-set (omega arith)

pub bounds-cells-at-else-has-3 : goal.bounds-cells-at-else-has-3
bounds-cells-at-else-has-3 c =
    simp length-set (omega arith)

pub returns-else-has : goal.returns-else-has
unfolding size_cells
returns-else-has c =
    rw c.if-has.false (simp (add-one, add-two))

pub returns-after-s : goal.returns-after-s
unfolding size_cells
returns-after-s c =
    rw c.if-has.true (elim c.if-s.branch [
      | then-s w ↦ rw (w.cells-is, w.if-s.true) (simp (add-one, add-two))
      | else-s w ↦ rw (w.cells-is, w.if-s.false) (simp (add-one, add-two))
    ])
