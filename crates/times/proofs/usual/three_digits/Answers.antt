-- Each digit is at most 1,000, so that nothing passes 64 bits.
use native.Mathlib.Omega.{arith}
use Rattle.times.proofs.UsualTimes.{digit_most}
use Rattle.times.proofs.usual.three_digits.Goals as goal

pub overflow_mul-result : goal.overflow_mul-result
overflow_mul-result c =
    record { fits = omega (arith, c.digit.ensures, digit_most c.args.hundreds) }

pub overflow_add-result : goal.overflow_add-result
overflow_add-result c =
    record {
      fits = omega (
        arith,
        c.digit.ensures,
        digit_most c.args.hundreds,
        c.two_digits.ensures,
        digit_most
            c.args.tens,
        digit_most c.args.ones,
      );
    }
