-- `digit_channel` answers the channel of two digits, or of one that counts twice.
use Prim.Native.Nat.{◌+◌, ◌-◌}
use native.Mathlib.Omega.{arith}
use Rattle.colors.proofs.Digits.{hex-at, digit_pair}
use Rattle.colors.proofs.read.digit_channel.Goals as goal

pub hex_digit-requires : goal.hex_digit-requires
hex_digit-requires c =
    hex-at c.args.text.now c.args.at c.requires.3 (omega arith)

pub overflow_mul-result : goal.overflow_mul-result
overflow_mul-result c =
    omega (arith, c.hex_digit.ensures, hex-at c.args.text.now c.args.at c.requires.3 (omega arith))

pub hex_digit-requires-2 : goal.hex_digit-requires-2
hex_digit-requires-2 c =
    hex-at c.args.text.now _ c.requires.3 (omega arith)

pub overflow_add-result : goal.overflow_add-result
overflow_add-result c =
    let s = c.args.text.now in
    let high = hex-at s c.args.at c.requires.3 (omega arith) in
    let low = hex-at s (c.args.at + c.args.width - 1) c.requires.3 (omega arith) in
    omega (arith, c.hex_digit.ensures, c.hex_digit-2.ensures)

pub returns : goal.returns
returns c =
    rw (c.hex_digit.ensures, c.hex_digit-2.ensures)
    (digit_pair c.args.text.now c.args.at c.args.width c.requires.0 c.requires.1 c.requires.2 c.requires.3)
