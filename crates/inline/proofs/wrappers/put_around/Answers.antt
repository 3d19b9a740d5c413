-- `put_around` meets its contract: the two halves side by side. Assumes nothing.
use Rattle.inline.specs.Wraps.{outer_of, inner_of}
use Rattle.inline.proofs.Wrapping.{many-outer, halves, wrap-then}
use Rattle.inline.proofs.wrappers.put_around.Goals as goal

pub returns : goal.returns
returns c =
    let w = c.args.w in
    rw (halves w)
    (wrap-then (outer_of w) (inner_of w) _ _ _ _ _ _ c.put_outer-next.ensures.around
    (rw (many-outer w) c.put_outer-next.ensures.value) c.put_inner.ensures.around)
