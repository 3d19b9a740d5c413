-- `write_alone` meets its contract.
use Rattle.writer.proofs.Chaining.{writes_stop, writes_then}
use Rattle.writer.proofs.CueLaws.{single_writes}
use Rattle.writer.proofs.buffer.Out.write_alone.Goals as goal

pub open_cue-requires : goal.open_cue-requires
open_cue-requires c =
    rw c.cue_at-x.ensures c.requires.style

pub write_body-requires : goal.write_body-requires
write_body-requires c =
    rw c.cue_at-x.ensures c.requires.segments

pub returns-in_err-open_cue : goal.returns-in_err-open_cue
returns-in_err-open_cue c =
    rw c.from_residual.ensures (single_writes _ _ _ c.cue_at-x.ensures _ _ _ (writes_stop _ c.in_err-open_cue.ensures))

pub returns : goal.returns
returns c =
    single_writes _ _ _ c.cue_at-x.ensures _ _ _ (writes_then c.in_ok-open_cue.ensures c.write_body.ensures)
