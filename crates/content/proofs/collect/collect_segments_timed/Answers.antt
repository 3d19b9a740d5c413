-- `collect_segments_timed` meets its contract: a list of its own, ended. Assumes nothing.
use mir.Facts.{to_z-of_z}
use Rattle.scan.proofs.Handed.{handed_on}
use Rattle.content.proofs.Reading.{content_asks, content_no, content_ready, content_left}
use Rattle.content.proofs.collect.collect_segments_timed.Goals as goal

pub collect_segments_inner-requires : goal.collect_segments_inner-requires
collect_segments_inner-requires c =
    content_asks c.requires

pub end_siblings-requires : goal.end_siblings-requires
end_siblings-requires c =
    content_ready c.collect_segments_inner.new.segments c.collect_segments_inner.new.texts c.in_ok-s.s c.requires c.in_ok-s.ensures

pub returns-in_err-s : goal.returns-in_err-s
returns-in_err-s c =
    rw (handed_on _ c.from_residual.ensures)
    (content_no c.args.base c.args.ctx c.args.ws c.collect_segments_inner.new.segments c.collect_segments_inner.new.texts _
    (rw (to_z-of_z c.ranges.base) at c.in_err-s.ensures) c.collect_segments_inner.new.segments c.collect_segments_inner.new.texts)

pub returns : goal.returns
returns c =
    content_left c.collect_segments_inner.new.segments c.end_siblings.new.segments c.collect_segments_inner.new.texts c.end_siblings.new.texts c.in_ok-s.s
    (rw (to_z-of_z c.ranges.base) at c.in_ok-s.ensures) c.end_siblings.ensures
