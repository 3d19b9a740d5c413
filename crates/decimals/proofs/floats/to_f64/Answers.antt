-- `to_f64` meets its contract: the digits as a float and the power of ten are exact, so the division rounds once.
use Rattle.std.proofs.Common.{◌^◌, arith, le→leb}
use lib.Ieee.{binary64, prec, of_bits, of_int, in_float}
use Rattle.decimals.proofs.Values.{quotient, minus_quotient}
use Rattle.decimals.proofs.floats.to_f64.Goals as goal

pub int_to_float-size : goal.int_to_float-size
unfolding in_float
int_to_float-size c =
    le→leb c.args.d.digits (2 ^ prec binary64) (omega arith)

pub returns-then-d : goal.returns-then-d
unfolding of_bits of_int
returns-then-d c =
    let d = c.args.d in
    rw c.if-d.true (minus_quotient binary64 d.digits d.scale (omega arith) (omega arith))

pub returns-else-d : goal.returns-else-d
unfolding of_bits of_int
returns-else-d c =
    let d = c.args.d in
    rw c.if-d.false (quotient binary64 d.digits d.scale (omega arith) (omega arith))
