-- `put_flags` meets its contract: each cell is one of the table.
use native.Mathlib.Omega.{arith}
use lib.ListN.{length-set}
use Rattle.told.proofs.cells.put_flags.Goals as goal

pub bounds-out-23 : goal.bounds-out-23
bounds-out-23 c =
    simp length-set (omega arith)

pub bounds-out-24 : goal.bounds-out-24
bounds-out-24 c =
    simp length-set (omega arith)

pub bounds-out-25 : goal.bounds-out-25
bounds-out-25 c =
    simp length-set (omega arith)
