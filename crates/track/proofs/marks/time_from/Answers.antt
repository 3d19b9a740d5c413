-- `time_from` meets its contract: what the bits say on each side of 2 ^ 63.
use mathlib.Core.Path.{ap, ◌∙◌}
use lib.IntN.{ℤ}
use mir.Syntax.{w64}
use mir.Val.{to_z, of_z}
use mir.Facts.{to_z-of_z}
use Rattle.track.proofs.Packed.{time-signed, time-up, time-down}
use Rattle.track.proofs.marks.time_from.Goals as goal

pub returns-then-bits-lt9223372036854775808 : goal.returns-then-bits-lt9223372036854775808
returns-then-bits-lt9223372036854775808 c =
    time-up _ c.if-bits-lt9223372036854775808.true

pub overflow_sub-result-2 : goal.overflow_sub-result-2
overflow_sub-result-2 c =
    rw (time-down _ c.if-bits-lt9223372036854775808.false) (time-signed _)

pub returns : goal.returns
returns c =
    ap (λ (z : ℤ). to_z w64 (of_z w64 z)) (time-down _ c.if-bits-lt9223372036854775808.false) ∙ to_z-of_z (time-signed _)
