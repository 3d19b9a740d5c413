-- `read_decimal` meets its contract: no text, or what follows a sign or none.
use Rattle.std.proofs.Common.{sym, ◌∙◌, arith}
use Rattle.decimals.proofs.Reading.{rest_part, decimal-none, decimal-minus, decimal-plus, decimal-bare}
use Rattle.decimals.proofs.Numbers.{reads}
use Rattle.decimals.proofs.read.read_decimal.Goals as goal

pub returns-in-empty : goal.returns-in-empty
returns-in-empty c =
    reads c.args.text.now c.args.digits c.args.decimals _ (sym (decimal-none c.args.digits c.args.decimals c.args.text.now (omega arith)))

pub returns-in-45 : goal.returns-in-45
returns-in-45 c =
    reads c.args.text.now c.args.digits c.args.decimals _
    (c.read_unsigned.ensures ∙ rw (rest_part c.args.text.now 1) (sym (decimal-minus c.args.digits c.args.decimals c.args.text.now (omega arith) (omega arith))))

pub returns-in-43 : goal.returns-in-43
returns-in-43 c =
    reads c.args.text.now c.args.digits c.args.decimals _
    (c.read_unsigned-in-43.ensures ∙ rw (rest_part c.args.text.now 1) (sym (decimal-plus c.args.digits c.args.decimals c.args.text.now (omega arith) (omega arith))))

pub returns-in_default : goal.returns-in_default
returns-in_default c =
    reads c.args.text.now c.args.digits c.args.decimals _
    (c.read_unsigned-in_default.ensures ∙ sym (decimal-bare c.args.digits c.args.decimals c.args.text.now (omega arith) (λ w. omega arith) (λ w. omega arith)))
