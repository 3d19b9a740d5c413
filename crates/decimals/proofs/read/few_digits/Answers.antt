use Rattle.std.proofs.Common.{sym, ◌∙◌, arith}
use borrow.Author.Tests.{not-false}
use Rattle.decimals.proofs.Counting.{running_step, digit_bounds, room}
use Rattle.decimals.proofs.read.few_digits.Goals as goal

pub overflow_mul-value : goal.overflow_mul-value
overflow_mul-value c =
    let v = room c.loop-i.value c.loop-i.i c.loop-i.invariant.small (omega (arith, c.requires.1)) in
    omega (arith, v)

pub overflow_add-value : goal.overflow_add-value
overflow_add-value c =
    let d = digit_bounds _ (sym c.is_of.ensures ∙ not-false _ c.if-not-is_of.false-raw) in
    let v = room c.loop-i.value c.loop-i.i c.loop-i.invariant.small (omega (arith, c.requires.1)) in
    omega (arith, v, d.1)

pub loop-i-preserved : goal.loop-i-preserved
loop-i-preserved c =
    running_step c.args.before c.args.text.now c.args.from c.loop-i.value c.loop-i.i c.loop-i.invariant c.loop-i-test.true
    (sym c.is_of.ensures ∙ not-false _ c.if-not-is_of.false-raw)
