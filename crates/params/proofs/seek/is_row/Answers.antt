-- `is_row` compares the name that stands in the row.
use mathlib.Core.Path.{◌∙◌}
use Rattle.params.proofs.seek.is_row.Goals as goal

pub returns : goal.returns
returns c =
    c.is_sought.ensures ∙ rw c.name.ensures
