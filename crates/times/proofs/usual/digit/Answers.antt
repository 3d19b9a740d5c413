-- A digit by the range of its byte.
use native.Mathlib.Omega.{arith}
use Rattle.scan.proofs.Runs.{digit_yes, digit_below, digit_above}
use Rattle.times.proofs.usual.digit.Goals as goal

pub returns-in_default : goal.returns-in_default
returns-in_default c =
    rw (digit_below c.args.b (omega arith))

pub returns-in-48-to-57 : goal.returns-in-48-to-57
returns-in-48-to-57 c =
    rw (digit_yes c.args.b (omega arith) (omega arith))

pub returns-in_default-2 : goal.returns-in_default-2
returns-in_default-2 c =
    rw (digit_above c.args.b (omega arith))
