-- `write_body` meets its contract.
use Rattle.writer.proofs.Chaining.{writes_stop, writes_then}
use Rattle.writer.specs.Cues.{body_text}
use Rattle.writer.proofs.buffer.Out.write_body.Goals as goal

pub returns-in_err-put : goal.returns-in_err-put
unfolding body_text
returns-in_err-put c =
    rw c.from_residual.ensures (writes_stop _ c.in_err-put.ensures)

pub returns-in_err-write_segments : goal.returns-in_err-write_segments
unfolding body_text
returns-in_err-write_segments c =
    rw c.from_residual-in_err-write_segments.ensures (writes_then c.in_ok-put.ensures (writes_stop _ c.in_err-write_segments.ensures))

pub returns : goal.returns
unfolding body_text
returns c =
    writes_then c.in_ok-put.ensures (writes_then c.in_ok-write_segments.ensures c.put-2.ensures)
