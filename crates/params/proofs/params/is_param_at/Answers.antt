-- `is_param_at` tests the name that stands in the row.
use mathlib.Core.Path.{◌∙◌}
use Rattle.params.proofs.params.is_param_at.Goals as goal

pub returns : goal.returns
returns c =
    c.is_param.ensures ∙ rw c.name.ensures
