-- `open_font` meets its contract.
use Rattle.writer.proofs.Chaining.{writes_stop, writes_then}
use Rattle.writer.specs.Spans.{font_text}
use Rattle.writer.proofs.buffer.Out.open_font.Goals as goal

pub returns-in_err-put : goal.returns-in_err-put
unfolding font_text
returns-in_err-put c =
    rw c.from_residual.ensures (writes_stop _ c.in_err-put.ensures)

pub returns-in_err-optional_attr : goal.returns-in_err-optional_attr
unfolding font_text
returns-in_err-optional_attr c =
    rw c.from_residual-in_err-optional_attr.ensures (writes_then c.in_ok-put.ensures (writes_stop _ c.in_err-optional_attr.ensures))

pub returns-in_err-size_attr : goal.returns-in_err-size_attr
unfolding font_text
returns-in_err-size_attr c =
    rw c.from_residual-in_err-size_attr.ensures
    (writes_then c.in_ok-put.ensures (writes_then c.in_ok-optional_attr.ensures (writes_stop _ c.in_err-size_attr.ensures)))

pub returns : goal.returns
unfolding font_text
returns c =
    writes_then c.in_ok-put.ensures (writes_then c.in_ok-optional_attr.ensures (writes_then c.in_ok-size_attr.ensures c.put-2.ensures))
