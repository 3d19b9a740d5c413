-- `put_span` meets its contract: the wrappers of a span put before its rows. Assumes nothing.
use mir.Facts.{to_z-of_z}
use mir.Syntax.{w64}
use mir.Val.{to_z, of_z}
use Rattle.track.specs.Track.{wrapped}
use Rattle.meaning.specs.Inline.{span_of}
use Rattle.inline.specs.Wraps.{wrappers_from, stamped_if}
use Rattle.inline.proofs.Spanning.{span-wrapped, changed_same}
use Rattle.inline.proofs.spans.put_span.Goals as goal

pub returns : goal.returns
returns c =
    let ws = wrappers_from c.args.w in
    changed_same c.args.first c.args.end
    (λ f. stamped_if c.args.stamp (to_z w64 (of_z w64 c.args.time)) (wrapped (wrappers_from c.spanned-around.result) f))
    (λ f. stamped_if c.args.stamp c.args.time (span_of ws f)) c.args.segments.now c.put_wrappers.new.segments c.put_wrappers.result
    (λ pre rest f h.
    let one = c.is_one.ensures pre rest f h.before h.in_cells h.count in
    rw (to_z-of_z c.ranges.time, c.spanned-around.ensures.0, one, span-wrapped ws f))
    c.put_wrappers.ensures
