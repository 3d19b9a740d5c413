use mathlib.Core.Path.{sym, ◌∙◌}
use native.Mathlib.Omega.{arith}
use borrow.Author.Rules.{rules}
use Rattle.document.proofs.IttsLaws.{rows-itts, extras_one}
use Rattle.document.proofs.SomeRows.{searching_start, searching_step, searching_found, searching_done}
use Rattle.document.proofs.itts.holds_itts.Goals as goal

pub overflow_add-i-end : goal.overflow_add-i-end
overflow_add-i-end c =
    let h = c.requires.cells in
    search (rules, h)

pub loop-i-init : goal.loop-i-init
loop-i-init c =
    searching_start _ _ _

pub is_itts-requires : goal.is_itts-requires
is_itts-requires c =
    extras_one _ _ _ _ _ _ c.requires c.loop-i.invariant.after
    (omega (arith, c.loop-i-test.true))

pub returns-then-is_itts : goal.returns-then-is_itts
returns-then-is_itts c =
    let e = sym c.is_itts.ensures ∙ c.if-is_itts.true in
    sym (rows-itts _ _ _ _ _ ∙ searching_found _ _ _ _ c.loop-i.invariant (omega (arith, c.loop-i-test.true)) e)

pub loop-i-preserved : goal.loop-i-preserved
loop-i-preserved c =
    searching_step _ _ _ _ c.loop-i.invariant (omega (arith, c.loop-i-test.true))
    (sym c.is_itts.ensures ∙ c.if-is_itts.false)

pub returns : goal.returns
returns c =
    sym (rows-itts _ _ _ _ _ ∙ searching_done _ _ _ _ c.loop-i.invariant (omega (arith, c.loop-i-test.false)))
