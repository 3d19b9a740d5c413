-- `put_attr` meets its contract: four stores make a row. Assumes nothing.
use native.Mathlib.Omega.{arith}
use native.Mathlib.Numerals.{add-one, add-two, add-three}
use lib.ListN.{length-set}
use Rattle.tree.specs.Trees.{attr_row}
use Rattle.tree.proofs.rows.put_attr.Goals as goal

pub bounds-cells-at-2 : goal.bounds-cells-at-2
bounds-cells-at-2 c =
    simp length-set (omega arith)

pub bounds-cells-at-3 : goal.bounds-cells-at-3
bounds-cells-at-3 c =
    simp length-set (omega arith)

pub bounds-cells-at-4 : goal.bounds-cells-at-4
bounds-cells-at-4 c =
    simp length-set (omega arith)

pub returns : goal.returns
unfolding attr_row
returns c =
    simp (add-one, add-two, add-three)
