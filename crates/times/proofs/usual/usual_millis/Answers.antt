-- The check finds all but the sum behind the marks.
use Rattle.times.proofs.UsualTimes.{all_marks}
use Rattle.times.proofs.usual.usual_millis.Goals as goal

pub returns : goal.returns
returns c =
    all_marks c.args.text.now c.if-text-ne58.false c.if-text-ne58-2.false c.if-text-ne46.false _ _ _ _ _
    c.two_digits-h.ensures c.two_digits-m.ensures c.two_digits-s.ensures c.three_digits-ms.ensures c.in_millis.ensures
