-- `resolve_over` meets its contract. Assumes nothing.
use Rattle.scan.specs.Part.{string_at}
use Rattle.styles.proofs.Answering.{answered-alone, answered-over, is-answered}
use Rattle.styles.proofs.apply.resolve_over.Goals as goal

pub returns-in_err-b : goal.returns-in_err-b
unfolding string_at
returns-in_err-b c =
    rw c.from_residual.ensures (answered-alone _ _ _ _ _ _ _ _ _ _ (rw c.in_err-b.was at c.resolve_pair.ensures))

pub returns-in_err-a : goal.returns-in_err-a
unfolding string_at
returns-in_err-a c =
    rw c.from_residual-in_err-a.ensures (answered-over _ _ _ _ _ _ _ _ _ _ _ c.ids-1.given c.clear.ensures _ (rw c.in_err-a.was at c.resolve_pair-2.ensures))

pub returns : goal.returns
unfolding string_at
returns c =
    is-answered _ _ _ _ _ _ _ _ _ _ _ c.ids-1.given c.clear.ensures _ _ _ _ _ _ _ (rw c.in_ok-b.was at c.resolve_pair.ensures) _
    (rw c.in_ok-a.was at c.resolve_pair-2.ensures) _ _ (rw c.style_is_unstyled-has.ensures at c.lay_over-below.ensures) c.lay_over.ensures
