-- `write_segments` and `write_one_segment` meet their contracts. The measure is twice the room, and which of the two writes. The loop over
-- siblings is `Spanning`. Assumes nothing.
use Rattle.std.specs.Prelude.{◌+◌, ◌-◌, ◌*◌}
use Rattle.writer.proofs.Spanning.{Spanning}
use Rattle.writer.proofs.buffer.Out.+write_one_segment_write_segments.Given as goal

abbrev pub decreases-write_one_segment : goal.decreases-write_one_segment
decreases-write_one_segment l = 2 * l.room

abbrev pub decreases-write_segments : goal.decreases-write_segments
decreases-write_segments l = 2 * l.room + 1

abbrev pub invariant-write_segments-loop-i : goal.invariant-write_segments-loop-i
invariant-write_segments-loop-i l =
    Spanning l.t.segments.now l.t.strings.now l.t.texts.now l.from l.n l.room l.initial.self l.i l.self l.inside

abbrev pub decreases-write_segments-loop-i : goal.decreases-write_segments-loop-i
decreases-write_segments-loop-i l =
    l.end - l.i
