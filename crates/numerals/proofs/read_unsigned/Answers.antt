use Rattle.std.specs.Prelude.{Some, None}
use mathlib.Core.Path.{◌≡◌, sym, ◌∙◌}
use native.Mathlib.Omega.{arith}
use borrow.Author.Rules.{rules}
use Rattle.std.proofs.lemmas.Bool.Decides.{nat_tests}
use Rattle.numerals.proofs.Numerals.{unsigned-none, up_to_is, up_to_none, going_step, going_off, going_over, going_done}
use Rattle.numerals.proofs.read_unsigned.Goals as goal

pub returns-then-is_empty : goal.returns-then-is_empty
returns-then-is_empty c =
    sym (unsigned-none _ _ _ (grind (arith, nat_tests)))

pub returns-then-radix-d : goal.returns-then-radix-d
returns-then-radix-d c =
    sym (going_off _ _ _ _ _ c.loop-b.invariant _ c.loop-b-test.true c.digit-d.ensures c.if-radix-d.true)

pub returns-in_err-value : goal.returns-in_err-value
returns-in_err-value c =
    let refused : c.from_residual.result ≡ None = search rules in
    let none : c.one_more.result ≡ None = search rules in
    let over = up_to_none _ _ (sym none ∙ c.one_more.ensures) in
    refused ∙ sym (going_over _ _ _ _ _ c.loop-b.invariant _ c.loop-b-test.true c.digit-d.ensures (omega arith) over)

pub loop-b-preserved : goal.loop-b-preserved
loop-b-preserved c =
    let some : c.one_more.result ≡ Some c.in_ok-value.value = search rules in
    let up = up_to_is _ _ _ (sym some ∙ c.one_more.ensures) in
    rw up.0 (going_step _ _ _ _ _ c.loop-b.invariant _ c.loop-b-test.true c.digit-d.ensures (omega arith) up.1)

pub returns : goal.returns
returns c =
    sym (going_done _ _ _ _ _ c.loop-b.invariant c.loop-b-test.false)
