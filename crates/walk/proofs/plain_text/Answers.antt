use Prim.Native.Nat.{◌+◌, ◌<◌}
use native.Mathlib.Omega.{arith}
use Rattle.walk.proofs.Rows.{writing_start, writing_done, writing_step, writing_full}
use Rattle.walk.proofs.plain_text.Goals as goal

pub loop-i-init : goal.loop-i-init
loop-i-init c =
    writing_start _ _ _ _ _ _ c.requires

pub row_text-requires : goal.row_text-requires
row_text-requires c =
    (c.loop-i.invariant.after, omega arith, c.loop-i.invariant.fits)

pub returns-in_err-to : goal.returns-in_err-to
returns-in_err-to c =
    let h : c.loop-i.i < c.args.rows.now.first + c.args.rows.now.many = omega arith in
    rw c.from_residual.ensures (writing_full _ _ _ _ _ _ _ _ _ c.loop-i.invariant h _ (rw c.in_err-to.was at c.row_text.ensures))

pub loop-i-preserved : goal.loop-i-preserved
loop-i-preserved c =
    let h : c.loop-i.i < c.args.rows.now.first + c.args.rows.now.many = omega arith in
    writing_step _ _ _ _ _ _ _ _ _ c.loop-i.invariant h _ _ (rw c.in_ok-to.was at c.row_text.ensures)

pub returns : goal.returns
returns c =
    writing_done _ _ _ _ _ _ _ _ _ c.loop-i.invariant (omega arith)
