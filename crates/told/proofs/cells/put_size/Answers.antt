-- `put_size` meets its contract: each cell is one of the table.
use native.Mathlib.Omega.{arith}
use lib.ListN.{length-set}
use Rattle.told.proofs.cells.put_size.Goals as goal

pub bounds-out-19 : goal.bounds-out-19
bounds-out-19 c =
    simp length-set (omega arith)

pub bounds-out-20 : goal.bounds-out-20
bounds-out-20 c =
    simp length-set (omega arith)

pub bounds-out-21 : goal.bounds-out-21
bounds-out-21 c =
    simp length-set (omega arith)
