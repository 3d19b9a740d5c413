use native.Mathlib.Omega.{arith}
use mir.Facts.{to_z-of_z}
use Rattle.scan.proofs.Handed.{handed_on}
use Rattle.cues.proofs.Cued.{content_more, segments_no, segments_of}
use Rattle.cues.proofs.cue.collect_segments.Goals as goal

pub attributes-requires : goal.attributes-requires
attributes-requires c =
    c.requires.attrs

pub style_paragraph-requires : goal.style_paragraph-requires
style_paragraph-requires c =
    let post = rw (to_z-of_z c.ranges.start) at c.in_ok-run.ensures in
    let more = content_more c.requires c.args.start c.args.ctx c.args.ws c.collect_segments_timed.new.segments c.collect_segments_timed.new.texts c.in_ok-run.run' post in
    rw c.attributes.ensures.bytes (more.0, more.1, omega (arith, c.collect_segments_timed.auto.segments, c.requires.content.roomy.wide), c.requires.content.roomy.small)

pub returns-in_err-run : goal.returns-in_err-run
returns-in_err-run c =
    rw (handed_on _ c.from_residual.ensures)
    (segments_no c.requires c.args.start c.args.ctx c.args.ws c.collect_segments_timed.new.segments c.collect_segments_timed.new.texts _
    (rw (to_z-of_z c.ranges.start) at c.in_err-run.ensures))

pub returns : goal.returns
returns c =
    let g = c.attributes.ensures in
    segments_of c.requires c.args.start c.args.ctx c.args.ws c.collect_segments_timed.new.segments c.collect_segments_timed.new.texts c.in_ok-run.run'
    (rw (to_z-of_z c.ranges.start) at c.in_ok-run.ensures) c.style_paragraph.new.segments
    c.style_paragraph.result (rw (g.table, g.bytes, g.from, g.count) at c.style_paragraph.ensures)
