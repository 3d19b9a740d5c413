-- `trimmed_color` answers the colour by its form: the check finds all but what stands after `#`.
use mathlib.Core.Path.{sym, ap, ◌∙◌}
use Rattle.colors.specs.Colors.{hex_color}
use Rattle.colors.proofs.Reading.{to_end, color-hash}
use Rattle.colors.proofs.read.trimmed_color.Goals as goal

pub returns-then-text-eq35 : goal.returns-then-text-eq35
returns-then-text-eq35 c =
    c.hex_color.ensures ∙ (ap hex_color (to_end c.args.text.now 1) ∙ sym (color-hash c.args.text.now c.if-text-eq35.true))
