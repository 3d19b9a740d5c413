use Rattle.entities.proofs.Escapes.{goes, full, last}
use Rattle.entities.proofs.escape.escape.Goals as goal

pub loop-out-preserved : goal.loop-out-preserved
loop-out-preserved c =
    goes c.args.quotes c.args.src.now _ _ _ _ _ _ _ c.loop-out.invariant c.plain_end-end.ensures _ c.if-src-end.false
    (rw c.in_ok-to.was at c.append_run.ensures)

pub returns-then-src-end : goal.returns-then-src-end
returns-then-src-end c =
    last c.args.quotes c.args.src.now _ _ _ _ _ _ c.append.new.out c.loop-out.invariant c.plain_end-end.ensures
    c.append.result c.if-src-end.true c.append.ensures

pub returns-in_err-to : goal.returns-in_err-to
returns-in_err-to c =
    rw c.from_residual.ensures (full c.args.quotes c.args.src.now _ c.args.out.now _ _ _ _ c.append_run.new.out c.loop-out.invariant
    c.plain_end-end.ensures c.if-src-end.false (rw c.in_err-to.was at c.append_run.ensures))
