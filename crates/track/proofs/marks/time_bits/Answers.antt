-- `time_bits` meets its contract, by the sign.
use mathlib.Core.Path.{◌≡◌}
use Prim.Native.Nat.{◌-◌}
use native.Mathlib.Omega.{arith}
use lib.IntN.{negsuc, nat_abs, ◌-ℤ◌}
use mir.Syntax.{w64}
use mir.Val.{to_z, of_z, SFits}
use mir.ValLaws.{to_z-of_z}
use Rattle.track.specs.Layout.{time_bits}
use Rattle.track.proofs.Packed.{Small, bits_up, bits_down}
use Rattle.track.proofs.marks.time_bits.Goals as goal
use Rattle.track.proofs.marks.time_bits.Goals.{Else-t-ge0, Then-t-ge0}

above : (c : Then-t-ge0) → let x = to_z w64 (of_z w64 c.args.t) in Small x × (nat_abs x ≡ time_bits c.args.t)
above c = bits_up c.args.t _ (to_z-of_z w64 _ c.ranges.t) c.ranges.t.sfits c.if-t-ge0.true

below : (c : Else-t-ge0) → let x = negsuc 0 -ℤ to_z w64 (of_z w64 c.args.t) in
    Small x × (18446744073709551615 - nat_abs x ≡ time_bits c.args.t)
below c = bits_down c.args.t _ (to_z-of_z w64 _ c.ranges.t) c.ranges.t.sfits c.if-t-ge0.false

sub_result : (c : Else-t-ge0) → SFits w64 (negsuc 0 -ℤ to_z w64 (of_z w64 c.args.t))
sub_result c = record { sfits = (below c).0.0 }

pub overflow_cast-result : goal.overflow_cast-result
overflow_cast-result c =
    ((above (goal.at.overflow_cast-result c).Then-t-ge0).0.1, record { fits = omega (arith, (above (goal.at.overflow_cast-result c).Then-t-ge0).0.2) })

pub returns-then-t-ge0 : goal.returns-then-t-ge0
returns-then-t-ge0 c =
    (above (goal.at.returns-then-t-ge0 c).Then-t-ge0).1

pub overflow_sub-result : goal.overflow_sub-result
overflow_sub-result c =
    record { sfits = (below (goal.at.overflow_sub-result c).Else-t-ge0).0.0 }

pub overflow_cast-result-2 : goal.overflow_cast-result-2
overflow_cast-result-2 c =
    rw (to_z-of_z w64 _ (sub_result (goal.at.overflow_cast-result-2 c).Else-t-ge0)) ((below (goal.at.overflow_cast-result-2 c).Else-t-ge0).0.1, record { fits = omega (arith, (below (goal.at.overflow_cast-result-2 c).Else-t-ge0).0.2) })

pub overflow_sub-result-2 : goal.overflow_sub-result-2
overflow_sub-result-2 c =
    rw (to_z-of_z w64 _ (sub_result (goal.at.overflow_sub-result-2 c).Else-t-ge0)) (omega (arith, (below (goal.at.overflow_sub-result-2 c).Else-t-ge0).0.2))

pub returns : goal.returns
returns c =
    rw (to_z-of_z w64 _ (sub_result (goal.at.returns c).Else-t-ge0)) (below (goal.at.returns c).Else-t-ge0).1
