use mathlib.Core.Path.{sym, ◌∙◌}
use native.Mathlib.Omega.{arith}
use Rattle.queries.proofs.Numbered.{value-start, value-stop, value-next, value-end}
use Rattle.queries.proofs.own.value_of.Goals as goal

pub overflow_add-i-end : goal.overflow_add-i-end
overflow_add-i-end c =
    omega (arith, c.args.kept.now.has_extras.rows)

pub loop-i-init : goal.loop-i-init
loop-i-init c =
    value-start _ _ _ _

pub overflow_mul-i : goal.overflow_mul-i
overflow_mul-i c =
    omega (arith, c.args.kept.now.has_extras.rows, c.loop-i-test.true)

pub get-requires : goal.get-requires
get-requires c =
    omega (arith, c.args.kept.now.has_extras.rows, c.loop-i-test.true)

pub overflow_mul-i-then-get-number : goal.overflow_mul-i-then-get-number
overflow_mul-i-then-get-number c =
    omega (arith, c.args.kept.now.has_extras.rows, c.loop-i-test.true)

pub overflow_add-i : goal.overflow_add-i
overflow_add-i c =
    omega (arith, c.args.kept.now.has_extras.rows, c.loop-i-test.true)

pub span_at-requires : goal.span_at-requires
span_at-requires c =
    omega (arith, c.args.kept.now.has_extras.rows, c.loop-i-test.true)

pub returns-then-get-number : goal.returns-then-get-number
returns-then-get-number c =
    value-stop _ _ _ _ _ c.loop-i.invariant c.loop-i-test.true (sym c.get.ensures
    ∙ c.if-get-number.true) _ c.span_at.ensures

pub loop-i-preserved : goal.loop-i-preserved
loop-i-preserved c =
    value-next _ _ _ _ _ c.loop-i.invariant
    c.loop-i-test.true (λ e. c.if-get-number.false (c.get.ensures ∙ e))

pub returns : goal.returns
returns c =
    value-end _ _ _ _ _ c.loop-i.invariant c.loop-i-test.false
