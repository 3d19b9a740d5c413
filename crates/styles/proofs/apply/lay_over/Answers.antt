-- `lay_over` meets its contract. Assumes nothing.
use borrow.Author.Tests.{not-true, not-false}
use mathlib.Core.Path.{refl}
use Rattle.styles.proofs.Answering.{lays_none, lays_first, lays_second}
use Rattle.styles.proofs.apply.lay_over.Goals as goal

pub returns-then-not-has : goal.returns-then-not-has
returns-then-not-has c =
    lays_none _ _ _ (not-true _ c.if-not-has.true-raw)

pub returns-then-below : goal.returns-then-below
returns-then-below c =
    lays_second _ _ _ _ (not-false _ c.if-not-has.false-raw) refl refl c.if-below.true c.overlay_style-look.ensures

pub returns-else-below : goal.returns-else-below
returns-else-below c =
    lays_first _ _ _ _ (not-false _ c.if-not-has.false-raw) refl refl c.if-below.false refl
