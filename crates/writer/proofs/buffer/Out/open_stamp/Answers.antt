-- `open_stamp` meets its contract.
use Rattle.writer.proofs.Chaining.{writes_stop, writes_then}
use Rattle.writer.specs.Spans.{stamp_text}
use mir.Syntax.{w64}
use mir.ValLaws.{to_z-of_z}
use Rattle.writer.proofs.buffer.Out.open_stamp.Goals as goal

pub returns-in_err-put_if : goal.returns-in_err-put_if
unfolding stamp_text
returns-in_err-put_if c =
    rw c.from_residual.ensures (writes_stop _ c.in_err-put_if.ensures)

pub returns-in_err-time_attr : goal.returns-in_err-time_attr
unfolding stamp_text
returns-in_err-time_attr c =
    rw c.from_residual-in_err-time_attr.ensures
    (writes_then c.in_ok-put_if.ensures (writes_stop _ (rw (to_z-of_z w64 _ c.ranges.us) at c.in_err-time_attr.ensures)))

pub returns : goal.returns
unfolding stamp_text
returns c =
    writes_then c.in_ok-put_if.ensures (writes_then (rw (to_z-of_z w64 _ c.ranges.us) at c.in_ok-time_attr.ensures) c.put.ensures)
