-- `collapse_text` meets its contract: the piece is the string. Assumes nothing.
use Rattle.scan.specs.Part.{string_at}
use Rattle.inline.proofs.collapse.collapse_text.Goals as goal

pub returns : goal.returns
unfolding string_at
returns c =
    λ before e. c.collapse.ensures before e
