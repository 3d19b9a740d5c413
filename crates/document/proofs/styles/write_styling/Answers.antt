-- `write_styling` meets its contract.
use Rattle.writer.proofs.Chaining.{writes_none, writes_stop, writes_then}
use Rattle.document.proofs.StyleLaws.{styling_none, styling_some}
use Rattle.document.proofs.styles.write_styling.Goals as goal

pub returns-then-n-eq0 : goal.returns-then-n-eq0
returns-then-n-eq0 c =
    rw (styling_none _ c.args.n c.if-n-eq0.true) (writes_none _)

pub returns-in_err-put : goal.returns-in_err-put
returns-in_err-put c =
    rw c.from_residual.ensures (rw (styling_some _ c.args.n c.if-n-eq0.false) (writes_stop _ c.in_err-put.ensures))

pub returns-in_err-write_styles : goal.returns-in_err-write_styles
returns-in_err-write_styles c =
    rw c.from_residual-in_err-write_styles.ensures (rw (styling_some _ c.args.n c.if-n-eq0.false) (writes_then c.in_ok-put.ensures (writes_stop _ c.in_err-write_styles.ensures)))

pub returns : goal.returns
returns c =
    rw (styling_some _ c.args.n c.if-n-eq0.false) (writes_then c.in_ok-put.ensures (writes_then c.in_ok-write_styles.ensures c.put-2.ensures))
