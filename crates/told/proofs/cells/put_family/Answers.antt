-- `put_family` meets its contract: each cell is one of the table.
use native.Mathlib.Omega.{arith}
use lib.ListN.{length-set}
use Rattle.told.proofs.cells.put_family.Goals as goal

pub bounds-out-16 : goal.bounds-out-16
bounds-out-16 c =
    simp length-set (omega arith)

pub bounds-out-17 : goal.bounds-out-17
bounds-out-17 c =
    simp length-set (omega arith)
