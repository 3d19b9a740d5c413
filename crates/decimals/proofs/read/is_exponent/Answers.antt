-- `is_exponent` meets its contract: the check finds all but the arm of a sign.
use Rattle.std.proofs.Common.{sym, ◌∙◌, arith}
use Rattle.decimals.proofs.Reading.{rest_part, exponent_signed}
use Rattle.decimals.proofs.read.is_exponent.Goals as goal

pub returns-in-101 : goal.returns-in-101
returns-in-101 c =
    let s = c.args.text.now in
    c.only_digits.ensures ∙ rw (rest_part s 2) (sym (exponent_signed s (omega arith) (λ n. omega arith) (λ n. omega arith)))
