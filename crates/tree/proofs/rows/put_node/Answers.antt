-- `put_node` meets its contract: six stores make a row. Assumes nothing.
use native.Mathlib.Omega.{arith}
use native.Mathlib.Numerals.{add-one, add-two, add-three, add-four, add_five}
use lib.ListN.{length-set}
use Rattle.tree.specs.Trees.{row}
use Rattle.tree.proofs.rows.put_node.Goals as goal

pub bounds-cells-at-2 : goal.bounds-cells-at-2
bounds-cells-at-2 c =
    simp length-set (omega arith)

pub bounds-cells-at-3 : goal.bounds-cells-at-3
bounds-cells-at-3 c =
    simp length-set (omega arith)

pub bounds-cells-at-4 : goal.bounds-cells-at-4
bounds-cells-at-4 c =
    simp length-set (omega arith)

pub bounds-cells-at-5 : goal.bounds-cells-at-5
bounds-cells-at-5 c =
    simp length-set (omega arith)

pub bounds-cells-at-6 : goal.bounds-cells-at-6
bounds-cells-at-6 c =
    simp length-set (omega arith)

pub returns : goal.returns
unfolding row
returns c =
    simp (add-one, add-two, add-three, add-four, add_five)
