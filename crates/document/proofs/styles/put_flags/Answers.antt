-- `put_flags` meets its contract.
use Rattle.writer.proofs.Chaining.{writes_stop, writes_then}
use Rattle.document.specs.Styles.{flags_text}
use Rattle.document.proofs.styles.put_flags.Goals as goal

pub returns-in_err-put_if : goal.returns-in_err-put_if
unfolding flags_text
returns-in_err-put_if c =
    rw c.from_residual.ensures (writes_stop _ c.in_err-put_if.ensures)

pub returns-in_err-put_if-2 : goal.returns-in_err-put_if-2
unfolding flags_text
returns-in_err-put_if-2 c =
    rw c.from_residual-in_err-put_if-2.ensures (writes_then c.in_ok-put_if.ensures (writes_stop _ c.in_err-put_if-2.ensures))

pub returns-in_err-put_if-3 : goal.returns-in_err-put_if-3
unfolding flags_text
returns-in_err-put_if-3 c =
    rw c.from_residual-in_err-put_if-3.ensures (writes_then c.in_ok-put_if.ensures (writes_then c.in_ok-put_if-2.ensures (writes_stop _ c.in_err-put_if-3.ensures)))

pub returns : goal.returns
unfolding flags_text
returns c =
    writes_then c.in_ok-put_if.ensures (writes_then c.in_ok-put_if-2.ensures (writes_then c.in_ok-put_if-3.ensures c.put_align.ensures))
