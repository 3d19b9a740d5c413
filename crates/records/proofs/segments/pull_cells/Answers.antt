use native.Mathlib.Omega.{arith}
use Rattle.records.proofs.Moves.{pulled-none, pulled-more, pulled-all}
use Rattle.records.proofs.segments.pull_cells.Goals as goal

pub loop-i-init : goal.loop-i-init
loop-i-init c =
    pulled-none c.args.cells.now _ _ _ (omega arith) (omega arith)

pub loop-i-preserved : goal.loop-i-preserved
loop-i-preserved c =
    pulled-more c.args.cells.now _ _ _ _ _ _ c.loop-i.invariant (omega arith)

pub returns : goal.returns
returns c =
    pulled-all c.args.cells.now _ _ _ _ _ c.loop-i.invariant (omega arith)
