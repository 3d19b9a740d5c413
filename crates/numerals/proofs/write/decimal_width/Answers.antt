use native.Mathlib.Omega.{arith}
use Rattle.numerals.proofs.Writing.{counting_start, counting_step, counting_done}
use Rattle.numerals.proofs.write.decimal_width.Goals as goal

pub loop-left-init : goal.loop-left-init
loop-left-init c =
    counting_start _

pub loop-left-preserved : goal.loop-left-preserved
loop-left-preserved c =
    counting_step _ _ _ c.loop-left.invariant (omega arith) (omega arith)

pub returns : goal.returns
returns c =
    counting_done _ _ _ c.loop-left.invariant (omega arith)
