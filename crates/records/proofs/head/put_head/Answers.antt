-- `put_head` meets its contract: five counts, a string that may be absent, and two counts more. Assumes nothing.
use native.Mathlib.Omega.{arith}
use lib.ListN.{length-set}
use Rattle.records.proofs.head.put_head.Goals as goal

pub bounds-head-1 : goal.bounds-head-1
bounds-head-1 c =
    simp length-set (omega arith)

pub bounds-head-2 : goal.bounds-head-2
bounds-head-2 c =
    simp length-set (omega arith)

pub bounds-head-3 : goal.bounds-head-3
bounds-head-3 c =
    simp length-set (omega arith)

pub bounds-head-4 : goal.bounds-head-4
bounds-head-4 c =
    simp length-set (omega arith)

pub put_optional-requires : goal.put_optional-requires
put_optional-requires c =
    (simp length-set (omega arith), c.requires.1.5)

pub overflow_cast-head-7 : goal.overflow_cast-head-7
overflow_cast-head-7 c =
    omega (arith, c.requires.1.7)
