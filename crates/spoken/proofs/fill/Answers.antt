-- `fill` meets its contract.
use mathlib.Core.Path.{sym}
use lib.Seq.{length-take-le}
use Rattle.writer.proofs.Chaining.{puts_at}
use Rattle.writer.proofs.CallLaws.{fit_bytes, fit_full}
use Rattle.spoken.proofs.fill.Goals as goal

pub slice_bounds-plain_text-end-2 : goal.slice_bounds-plain_text-end-2
slice_bounds-plain_text-end-2 c =
    sym (length-take-le _ _ c.limit-end.ensures.within)

pub returns-in-Some : goal.returns-in-Some
returns-in-Some c =
    let p = rw c.in-Some.is at c.plain_text.ensures in
    fit_bytes _ _ _ c.requires c.limit-end.ensures _ _ (puts_at _ _ _ _ _ p)

pub returns-in-None : goal.returns-in-None
returns-in-None c =
    let p = rw c.in-None.is at c.plain_text.ensures in
    fit_full _ _ _ c.requires c.limit-end.ensures _ _ _ c.refused.ensures
    (puts_at _ _ _ _ _ p) c.clear_bytes.ensures
