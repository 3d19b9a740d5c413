use native.Mathlib.Omega.{arith}
use Rattle.writer.proofs.Rowing.{rowed_start, rowed_step, rowed_stop, rowed_done}
use Rattle.document.proofs.params.write_params.Goals as goal

pub loop-i-init : goal.loop-i-init
loop-i-init c =
    rowed_start _ _ _ _

pub write_param-requires : goal.write_param-requires
write_param-requires c =
    c.requires c.loop-i.i (omega (arith, c.loop-i-test.true))

pub returns-in_err-write_param : goal.returns-in_err-write_param
returns-in_err-write_param c =
    rw c.from_residual.ensures
    (rowed_stop _ _ _ _ _ _ c.loop-i.invariant (omega (arith, c.loop-i-test.true)) _ c.in_err-write_param.ensures)

pub loop-i-preserved : goal.loop-i-preserved
loop-i-preserved c =
    rowed_step _ _ _ _ _ _ c.loop-i.invariant (omega (arith, c.loop-i-test.true)) _ c.in_ok-write_param.ensures

pub returns : goal.returns
returns c =
    rowed_done _ _ _ _ _ _ c.loop-i.invariant (omega (arith, c.loop-i-test.false))
