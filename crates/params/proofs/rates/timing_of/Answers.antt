-- `timing_of`, by the frame rate and the tick rate.
use lib.Ieee.{of_int, of_bits}
use mathlib.Core.Path.{refl, ap, ◌∙◌}
use Rattle.scan.proofs.Handed.{handed_on}
use Rattle.params.proofs.Seeking.{timing-is, timing_framed, timing-refused}
use Rattle.meaning.specs.Answers.{is}
use Rattle.params.proofs.rates.timing_of.Goals as goal

pub returns : goal.returns
unfolding of_int of_bits
returns c =
    λ l y. rw (c.unwrap_or.ensures, c.is_some.ensures, c.unwrap_or-2.ensures, c.is_some-2.ensures)
    (ap is (timing-is _ refl c.in_ok-frame.frame c.in_ok-tick.tick) ∙ timing_framed _ _ _ (c.in_ok-frame.ensures l y) (c.in_ok-tick.ensures l y))

pub returns-in_err-frame : goal.returns-in_err-frame
returns-in_err-frame c =
    rw (handed_on _ c.from_residual.ensures) (λ l y. timing-refused _ _ (c.in_err-frame.ensures l y))

pub returns-in_err-tick : goal.returns-in_err-tick
returns-in_err-tick c =
    rw (handed_on _ c.from_residual-in_err-tick.ensures) (λ l y. timing_framed _ _ _ (c.in_ok-frame.ensures l y) (c.in_err-tick.ensures l y))
