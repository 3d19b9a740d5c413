-- `around` meets its contract: the font is there where its family or its size is. Assumes nothing.
use mathlib.Core.Path.{refl}
use Rattle.content.proofs.Giving.{around_is}
use Rattle.content.proofs.collect.around.Goals as goal

pub returns-then-font : goal.returns-then-font
returns-then-font c =
    (refl, λ z h. around_is z c.args.w _ (rw c.if-font.true) h)

pub returns-else-font : goal.returns-else-font
returns-else-font c =
    (refl, λ z h. around_is z c.args.w _ (rw c.if-font.false) h)
