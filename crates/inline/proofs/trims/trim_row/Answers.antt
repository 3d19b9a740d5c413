-- `trim_row` meets its contract: by its kind. Assumes nothing.
use mathlib.Core.Path.{◌∙◌}
use native.Mathlib.Omega.{arith}
use Rattle.inline.proofs.TrimLaws.{row-text, row_other}
use Rattle.inline.proofs.trims.trim_row.Goals as goal

pub trim_text-requires : goal.trim_text-requires
trim_text-requires c =
    (omega (arith, c.requires.room), c.requires.within c.args.i (omega arith) (omega arith) c.if-kind-eq-TEXT.true)

pub returns-then-kind-eq-TEXT : goal.returns-then-kind-eq-TEXT
returns-then-kind-eq-TEXT c =
    c.trim_text.ensures
    ∙ row-text _ _ _ c.if-kind-eq-TEXT.true

pub returns-else-kind-eq-TEXT : goal.returns-else-kind-eq-TEXT
returns-else-kind-eq-TEXT c =
    row_other _ _ _ c.if-kind-eq-TEXT.false
