-- `count_digit` meets its contract, by its three ways.
use Rattle.std.proofs.Common.{◌-◌, ⊎_elim, arith, eqb-true}
use Rattle.decimals.proofs.Counting.{one_zero, one_past, one_more, room}
use Rattle.decimals.proofs.read.count_digit.Goals as goal

pub returns-then-d-eq0 : goal.returns-then-d-eq0
returns-then-d-eq0 c =
    one_zero c.args.before c.args.b c.if-before-eq0.true (omega (arith, eqb-true (c.args.b - 48) 0 c.if-d-eq0.true-raw)) c.requires.2

pub overflow_mul-result : goal.overflow_mul-result
overflow_mul-result c =
    omega (arith, room c.args.before.value c.args.before.significant c.requires.2 c.if-significant-gt18.false)

pub overflow_add-result : goal.overflow_add-result
overflow_add-result c =
    omega (arith, room c.args.before.value c.args.before.significant c.requires.2 c.if-significant-gt18.false)

pub returns-then-significant-gt18 : goal.returns-then-significant-gt18
returns-then-significant-gt18 c =
    one_past c.args.before c.args.b (λ z e. ⊎_elim (λ w. absurd (w.1 (omega arith))) (λ w. w z) c.else-before-eq0.either) c.if-significant-gt18.true

pub returns : goal.returns
returns c =
    one_more c.args.before c.args.b (λ z e. ⊎_elim (λ w. absurd (w.1 (omega arith))) (λ w. w z) c.else-before-eq0.either) c.requires.0 c.requires.1 c.requires.2
