-- `number_at` looks up the name that stands in the row.
use mathlib.Core.Path.{◌∙◌}
use Rattle.extras.proofs.extras.number_at.Goals as goal

pub returns : goal.returns
returns c =
    c.number_of.ensures ∙ rw c.name.ensures
