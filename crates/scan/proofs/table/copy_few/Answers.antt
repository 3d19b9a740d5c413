-- `copy_few` meets its contract: a store for each byte.
use native.Mathlib.Omega.{arith}
use lib.ListN.{length-set}
use Rattle.scan.proofs.Stores.{sets_none, sets_one, sets_two, sets_three}
use Rattle.scan.proofs.table.copy_few.Goals as goal

pub returns-then-n-eq0 : goal.returns-then-n-eq0
returns-then-n-eq0 c =
    sets_none _ _ c.args.piece.now (omega arith)

pub returns-then-n-eq1 : goal.returns-then-n-eq1
returns-then-n-eq1 c =
    sets_one _ _ c.args.piece.now (omega arith)

pub bounds-out-at-2 : goal.bounds-out-at-2
bounds-out-at-2 c =
    simp length-set (omega arith)

pub returns-then-n-eq2 : goal.returns-then-n-eq2
returns-then-n-eq2 c =
    sets_two _ _ c.args.piece.now (omega arith)

pub bounds-out-at-3 : goal.bounds-out-at-3
bounds-out-at-3 c =
    simp length-set (omega arith)

pub returns : goal.returns
returns c =
    sets_three _ _ c.args.piece.now (omega arith)
