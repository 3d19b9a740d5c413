-- `parse_ttml_color_rgba` answers the colour that is left when white space is trimmed.
use mathlib.Core.Path.{ap, ◌∙◌}
use Rattle.scan.proofs.Splits.{whole_part}
use Rattle.colors.specs.Colors.{color, color_in}
use Rattle.colors.proofs.Answers.{reads_color}
use Rattle.colors.proofs.read.parse_ttml_color_rgba.Goals as goal

pub returns : goal.returns
unfolding color_in
returns c =
    let s = c.args.text.now in
    let spans = rw (whole_part s) at c.trim-span.ensures in
    reads_color (c.trimmed_color.ensures ∙ ap color spans.is)
