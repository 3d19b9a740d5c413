-- `run` is safe and ends.
use Rattle.filter.proofs.Fitting.{fitting, counted}
use Rattle.filter.proofs.run.Goals as goal

pub slice_bounds-out-end : goal.slice_bounds-out-end
slice_bounds-out-end c =
    fitting _ _ c.recaption-answer.ensures c.print.ensures c.in-Some.is

pub slice_bounds-send-end : goal.slice_bounds-send-end
slice_bounds-send-end c =
    counted _ _ c.recaption-answer.ensures c.print.ensures c.in-Some.is
