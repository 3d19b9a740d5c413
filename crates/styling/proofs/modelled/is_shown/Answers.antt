-- `is_shown` looks the name up in the list.
use Rattle.std.specs.Prelude.{is_some}
use mathlib.Core.Path.{ap, ◌∙◌}
use Rattle.styling.proofs.modelled.is_shown.Goals as goal

pub returns : goal.returns
returns c =
    c.is_some.ensures ∙ (ap is_some c.number_of.ensures ∙ rw c.name.ensures)
