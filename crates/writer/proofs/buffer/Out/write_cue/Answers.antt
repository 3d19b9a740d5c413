-- `write_cue` meets its contract.
use Rattle.writer.proofs.Chaining.{writes_stop, writes_then}
use Rattle.writer.proofs.CueLaws.{cue_writes}
use Rattle.writer.proofs.buffer.Out.write_cue.Goals as goal

pub open_cue-requires : goal.open_cue-requires
open_cue-requires c =
    rw c.cue_at-x.ensures c.requires.style

pub optional_attr-requires : goal.optional_attr-requires
optional_attr-requires c =
    rw c.cue_at-x.ensures c.requires.region

pub write_extras-requires : goal.write_extras-requires
write_extras-requires c =
    rw c.cue_at-x.ensures c.requires.extras

pub write_body-requires : goal.write_body-requires
write_body-requires c =
    rw c.cue_at-x.ensures c.requires.segments

pub returns-in_err-open_cue : goal.returns-in_err-open_cue
returns-in_err-open_cue c =
    rw c.from_residual.ensures (cue_writes _ _ _ c.cue_at-x.ensures _ _ _ (writes_stop _ c.in_err-open_cue.ensures))

pub returns-in_err-optional_attr : goal.returns-in_err-optional_attr
returns-in_err-optional_attr c =
    rw c.from_residual-in_err-optional_attr.ensures
    (cue_writes _ _ _ c.cue_at-x.ensures _ _ _ (writes_then c.in_ok-open_cue.ensures (writes_stop _ c.in_err-optional_attr.ensures)))

pub returns-in_err-write_extras : goal.returns-in_err-write_extras
returns-in_err-write_extras c =
    rw c.from_residual-in_err-write_extras.ensures
    (cue_writes _ _ _ c.cue_at-x.ensures _ _ _
    (writes_then c.in_ok-open_cue.ensures (writes_then c.in_ok-optional_attr.ensures (writes_stop _ c.in_err-write_extras.ensures))))

pub returns-in_err-put_if : goal.returns-in_err-put_if
returns-in_err-put_if c =
    rw c.from_residual-in_err-put_if.ensures
    (cue_writes _ _ _ c.cue_at-x.ensures _ _ _
    (writes_then c.in_ok-open_cue.ensures
    (writes_then c.in_ok-optional_attr.ensures (writes_then c.in_ok-write_extras.ensures (writes_stop _ c.in_err-put_if.ensures)))))

pub returns : goal.returns
returns c =
    cue_writes _ _ _ c.cue_at-x.ensures _ _ _
    (writes_then c.in_ok-open_cue.ensures
    (writes_then c.in_ok-optional_attr.ensures
    (writes_then c.in_ok-write_extras.ensures (writes_then c.in_ok-put_if.ensures c.write_body.ensures))))
