-- `color_in` meets its contract. Assumes nothing.
use Rattle.std.specs.Prelude.{Err}
use mathlib.Core.Path.{ap, sym, ◌∙◌}
use Rattle.queries.proofs.Owning.{color-post, color-none, color-cut}
use Rattle.queries.proofs.own.color_in.Goals as goal

pub returns-in-Ok : goal.returns-in-Ok
returns-in-Ok c =
    color-post _ _ (sym c.parse_ttml_color_rgba.ensures.is ∙ c.in-Ok.is)

pub returns-in-Err-Invalid : goal.returns-in-Err-Invalid
returns-in-Err-Invalid c =
    color-none _ (sym c.parse_ttml_color_rgba.ensures.is ∙ (c.in-Err-Invalid.is ∙ ap Err c.in-Err-Invalid.field-0-is))

pub returns-in-Err-Cut : goal.returns-in-Err-Cut
returns-in-Err-Cut c =
    color-cut _ (sym c.parse_ttml_color_rgba.ensures.is ∙ (c.in-Err-Cut.is ∙ ap Err c.in-Err-Cut.field-0-is))
