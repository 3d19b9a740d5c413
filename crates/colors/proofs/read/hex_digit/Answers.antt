-- `hex_digit` answers the value of a digit, whichever of the three runs of digits it is of.
use Rattle.colors.proofs.Digits.{hex}
use Rattle.colors.proofs.read.hex_digit.Goals as goal

pub returns : goal.returns
returns c =
    (hex c.args.b c.requires).value
