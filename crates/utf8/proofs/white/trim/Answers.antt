-- `trim` answers the whole text where visible ASCII stands at its two ends, and elsewhere what `trim_white` answers.
use Prim.Native.Nat.{◌-◌}
use mathlib.Core.Path.{◌≡◌}
use native.Mathlib.Omega.{arith}
use lib.ListN.{length}
use Rattle.scan.proofs.Splits.{whole_part}
use Rattle.utf8.proofs.WhiteLaws.{white_at-visible}
use Rattle.utf8.proofs.Trimming.{before-visible, trimmed-tight}
use Rattle.utf8.proofs.white.trim.Goals as goal

pub returns-in-33-to-127 : goal.returns-in-33-to-127
returns-in-33-to-127 c =
    let s = c.args.src.now in
    let one : length s - 1 ≡ 0 = omega arith in
    trimmed-tight s (omega arith) (white_at-visible s 0 (omega arith) (omega arith) (omega arith))
    (before-visible s _ (omega arith) (omega arith) (rw one (omega arith)) (rw one (omega arith)))

pub returns-in-33-to-127-2 : goal.returns-in-33-to-127-2
returns-in-33-to-127-2 c =
    let s = c.args.src.now in
    trimmed-tight s (omega arith) (white_at-visible s 0 (omega arith) (omega arith) (omega arith))
    (before-visible s _ (omega arith) (omega arith) (omega arith) (omega arith))

pub returns-in_default : goal.returns-in_default
returns-in_default c =
    rw (whole_part c.args.src.now) at c.trim_white.ensures
