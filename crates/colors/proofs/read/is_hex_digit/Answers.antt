-- `is_hex_digit` meets its contract: the bit of a byte, in the word of its half.
use native.Mathlib.Omega.{arith}
use Rattle.colors.proofs.Digits.{bit_low, bit_high}
use Rattle.colors.proofs.read.is_hex_digit.Goals as goal
use Rattle.colors.proofs.read.is_hex_digit.Goals.{then-b-lt64, else-b-lt64}

pub returns : goal.returns
returns c =
    let b = c.args.b in
    elim c.if-b-lt64.branch [
      | then-b-lt64 w ↦ rw w.digits-is (bit_low b (omega (arith, w.if-b-lt64.true)))
      | else-b-lt64 w ↦ rw w.digits-is (bit_high b (omega (arith, w.if-b-lt64.false)) (omega (arith, c.if-b-gt127.false)))
    ]
