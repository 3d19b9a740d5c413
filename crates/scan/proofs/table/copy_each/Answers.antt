use native.Mathlib.Omega.{arith}
use Rattle.scan.proofs.Stores.{copied_none, copied_more, copied_all}
use Rattle.scan.proofs.table.copy_each.Goals as goal

pub loop-i-init : goal.loop-i-init
loop-i-init c =
    copied_none c.args.piece.now c.args.out.now _ (omega arith)

pub loop-i-preserved : goal.loop-i-preserved
loop-i-preserved c =
    copied_more c.args.piece.now c.args.out.now _ _ _ c.loop-i.invariant c.loop-i-test.true

pub returns : goal.returns
returns c =
    copied_all c.args.piece.now c.args.out.now _ _ _ c.loop-i.invariant c.loop-i-test.false
