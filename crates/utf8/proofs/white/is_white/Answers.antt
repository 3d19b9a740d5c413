-- `is_white` answers whether a code point is among those of the table.
use mathlib.Core.Path.{◌∙◌}
use Rattle.utf8.specs.WhiteSpace.{white_space, is_white}
use Rattle.utf8.proofs.WhiteLaws.{among}
use Rattle.utf8.proofs.white.is_white.Goals as goal

pub returns : goal.returns
unfolding is_white
returns c =
    c.is_among.ensures ∙ among c.args.c white_space
