-- `whole_part` meets its contract: the bits' two fields are the float as a fraction, and the shift cuts it.
use Rattle.std.proofs.Common.{arith}
use Rattle.decimals.proofs.Truncated.{bits_fields, bits_near, bits_right, bits_left, not_nan}
use Rattle.decimals.proofs.floats.whole_part.Goals as goal

pub float_to_bits-bits : goal.float_to_bits-bits
float_to_bits-bits c =
    not_nan c.args.x c.requires

pub overflow_shr-result : goal.overflow_shr-result
overflow_shr-result c =
    omega (arith, bits_near c.args.x _ _ c.requires (bits_fields c.args.x c.well_formed.0.1 c.requires))

pub overflow_shl-result : goal.overflow_shl-result
overflow_shl-result c =
    omega (arith, bits_near c.args.x _ _ c.requires (bits_fields c.args.x c.well_formed.0.1 c.requires))

pub returns-then-exponent-le1075 : goal.returns-then-exponent-le1075
returns-then-exponent-le1075 c =
    bits_right c.args.x _ _ c.requires (bits_fields c.args.x c.well_formed.0.1 c.requires) c.if-exponent-le1075.true

pub returns-else-exponent-le1075 : goal.returns-else-exponent-le1075
returns-else-exponent-le1075 c =
    bits_left c.args.x _ _ c.requires (bits_fields c.args.x c.well_formed.0.1 c.requires) c.if-exponent-le1075.false
