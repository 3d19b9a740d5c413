-- `open_cue` meets its contract.
use Rattle.writer.proofs.Chaining.{writes_stop, writes_then}
use Rattle.writer.specs.Cues.{timed_text}
use mir.Syntax.{w64}
use mir.ValLaws.{to_z-of_z}
use Rattle.writer.proofs.buffer.Out.open_cue.Goals as goal

pub returns-in_err-time_attr : goal.returns-in_err-time_attr
unfolding timed_text
returns-in_err-time_attr c =
    rw c.from_residual.ensures (writes_stop _ (rw (to_z-of_z w64 _ (record { sfits = c.struct_told-1.given.0.1 })) at c.in_err-time_attr.ensures))

pub returns-in_err-time_attr-2 : goal.returns-in_err-time_attr-2
unfolding timed_text
returns-in_err-time_attr-2 c =
    rw c.from_residual-in_err-time_attr-2.ensures
    (writes_then (rw (to_z-of_z w64 _ (record { sfits = c.struct_told-1.given.0.1 })) at c.in_ok-time_attr.ensures)
    (writes_stop _ (rw (to_z-of_z w64 _ (record { sfits = c.struct_told-2-1.given.1.0.1 })) at c.in_err-time_attr-2.ensures)))

pub returns : goal.returns
unfolding timed_text
returns c =
    writes_then (rw (to_z-of_z w64 _ (record { sfits = c.struct_told-1.given.0.1 })) at c.in_ok-time_attr.ensures)
    (writes_then (rw (to_z-of_z w64 _ (record { sfits = c.struct_told-2-1.given.1.0.1 })) at c.in_ok-time_attr-2.ensures) c.optional_attr.ensures)
