use native.Mathlib.Omega.{arith}
use Rattle.writer.proofs.Chaining.{writes_stop, writes_then}
use Rattle.writer.proofs.Rowing.{rowed_start, rowed_step, rowed_stop, rowed_done, lines-over}
use Rattle.document.proofs.styles.write_styles.Goals as goal

pub loop-i-init : goal.loop-i-init
loop-i-init c =
    rowed_start _ _ _ _

pub write_style-requires : goal.write_style-requires
write_style-requires c =
    (c.requires, omega (arith, c.loop-i-test.true))

pub returns-in_err-put : goal.returns-in_err-put
returns-in_err-put c =
    rw (c.from_residual.ensures, lines-over _ _ c.args.n 0)
    (rowed_stop _ _ _ _ _ _ c.loop-i.invariant (omega (arith, c.loop-i-test.true)) _ (writes_stop _ c.in_err-put.ensures))

pub returns-in_err-write_style : goal.returns-in_err-write_style
returns-in_err-write_style c =
    rw (c.from_residual-in_err-write_style.ensures, lines-over _ _ c.args.n 0)
    (rowed_stop _ _ _ _ _ _ c.loop-i.invariant (omega (arith, c.loop-i-test.true)) _
    (writes_then c.in_ok-put.ensures (writes_stop _ c.in_err-write_style.ensures)))

pub returns-in_err-put-2 : goal.returns-in_err-put-2
returns-in_err-put-2 c =
    rw (c.from_residual-in_err-put-2.ensures, lines-over _ _ c.args.n 0)
    (rowed_stop _ _ _ _ _ _ c.loop-i.invariant (omega (arith, c.loop-i-test.true)) _
    (writes_then c.in_ok-put.ensures (writes_then c.in_ok-write_style.ensures c.in_err-put-2.ensures)))

pub loop-i-preserved : goal.loop-i-preserved
loop-i-preserved c =
    rowed_step _ _ _ _ _ _ c.loop-i.invariant (omega (arith, c.loop-i-test.true)) _
    (writes_then c.in_ok-put.ensures (writes_then c.in_ok-write_style.ensures c.in_ok-put-2.ensures))

pub returns : goal.returns
returns c =
    rw (lines-over _ _ c.args.n 0)
    (rowed_done _ _ _ _ _ _ c.loop-i.invariant (omega (arith, c.loop-i-test.false)))
