-- `align_of` meets its contract. Assumes nothing.
use mathlib.Core.Path.{◌∙◌}
use Rattle.queries.proofs.Owning.{align_read}
use Rattle.queries.proofs.own.align_of.Goals as goal

pub returns : goal.returns
returns c =
    c.parse_text_align.ensures ∙ rw c.bytes_of.ensures (align_read _ _ _ _ _)
