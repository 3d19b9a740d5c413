-- `is_number`: a digit or a point.
use mathlib.Core.Path.{sym, ◌∙◌}
use Rattle.meaning.specs.Styling.{number_byte}
use Rattle.styling.proofs.sizes.is_number.Goals as goal

pub returns-then-is_of : goal.returns-then-is_of
unfolding number_byte
returns-then-is_of c =
    let e = sym c.is_of.ensures ∙ c.if-is_of.true in rw (c.is_of.ensures, e)

pub returns-else-is_of : goal.returns-else-is_of
unfolding number_byte
returns-else-is_of c =
    let e = sym c.is_of.ensures ∙ c.if-is_of.false in rw e
