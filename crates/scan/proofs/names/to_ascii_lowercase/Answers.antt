-- `to_ascii_lowercase` meets its contract: the tests of its `match` say on which side of the capitals the byte is.
use mathlib.Core.Path.{sym}
use native.Mathlib.Omega.{arith}
use Rattle.scan.proofs.Naming.{lower-capital, lower-below, lower-above}
use Rattle.scan.proofs.names.to_ascii_lowercase.Goals as goal

pub returns-in-65-to-90 : goal.returns-in-65-to-90
returns-in-65-to-90 c =
    sym (lower-capital _ (omega arith) (omega arith))

pub returns-in_default : goal.returns-in_default
returns-in_default c =
    sym (lower-below _ (omega arith))

pub returns-in_default-2 : goal.returns-in_default-2
returns-in_default-2 c =
    sym (lower-above _ (omega arith))
