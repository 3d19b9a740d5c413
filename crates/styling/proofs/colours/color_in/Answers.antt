-- `color_in` answers what `color_answer` does, case by case.
use Rattle.std.specs.Prelude.{Err}
use mathlib.Core.Path.{sym, ap, ◌∙◌}
use Rattle.meaning.specs.Styling.{color_answer}
use Rattle.styling.proofs.colours.color_in.Goals as goal

pub returns-in-Ok : goal.returns-in-Ok
returns-in-Ok c =
    ap (color_answer c.args.at) (sym c.in-Ok.is ∙ c.parse_ttml_color_rgba.ensures.is)

pub returns-in-Err-Invalid : goal.returns-in-Err-Invalid
returns-in-Err-Invalid c =
    ap (color_answer c.args.at) (sym (c.in-Err-Invalid.is ∙ ap Err c.in-Err-Invalid.field-0-is) ∙ c.parse_ttml_color_rgba.ensures.is)

pub returns-in-Err-Cut : goal.returns-in-Err-Cut
returns-in-Err-Cut c =
    ap (color_answer c.args.at) (sym (c.in-Err-Cut.is ∙ ap Err c.in-Err-Cut.field-0-is) ∙ c.parse_ttml_color_rgba.ensures.is)
