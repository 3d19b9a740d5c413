-- `parse_text_align` reads the trimmed part.
use mathlib.Core.Path.{ap, ◌∙◌}
use Rattle.track.specs.Alignment.{align_word}
use Rattle.track.proofs.alignment.parse_text_align.Goals as goal

pub returns : goal.returns
returns c =
    c.align_word.ensures ∙ ap align_word c.trim-span.ensures.is
