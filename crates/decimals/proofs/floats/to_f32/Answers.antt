-- `to_f32` meets its contract: the digits as a float and the power of ten are exact, so the division rounds once.
use Rattle.std.proofs.Common.{arith}
use lib.Ieee.{binary32, of_bits, of_int}
use Rattle.decimals.proofs.Values.{quotient, minus_quotient}
use Rattle.decimals.proofs.floats.to_f32.Goals as goal

pub returns-then-d : goal.returns-then-d
unfolding of_bits of_int
returns-then-d c =
    rw (c.if-d.true, c.nearest_u32_to_f32.ensures) (minus_quotient binary32 c.args.d.digits c.args.d.scale (omega arith)
    (omega arith))

pub returns-else-d : goal.returns-else-d
unfolding of_bits of_int
returns-else-d c =
    rw (c.if-d.false, c.nearest_u32_to_f32.ensures) (quotient binary32 c.args.d.digits c.args.d.scale (omega arith)
    (omega arith))
