use mathlib.Core.Path.{refl, sym, ◌∙◌}
use native.Mathlib.Omega.{arith}
use Rattle.meaning.specs.Words.{contains_folded}
use Rattle.styling.proofs.Folding.{contains-here, contains-next, contains-end}
use Rattle.styling.proofs.words.contains_word.Goals as goal

pub loop-i-init : goal.loop-i-init
unfolding contains_folded
loop-i-init c =
    refl

pub stands_at-requires : goal.stands_at-requires
stands_at-requires c =
    (omega (arith, c.loop-i-test.true), c.requires)

pub returns-then-stands_at : goal.returns-then-stands_at
returns-then-stands_at c =
    sym (c.loop-i.invariant ∙ contains-here c.args.word.now c.args.value.now _ c.loop-i-test.true (sym
    c.stands_at.ensures ∙ c.if-stands_at.true))

pub loop-i-preserved : goal.loop-i-preserved
loop-i-preserved c =
    c.loop-i.invariant ∙ contains-next c.args.word.now c.args.value.now _ c.loop-i-test.true (sym
    c.stands_at.ensures ∙ c.if-stands_at.false)

pub returns : goal.returns
returns c =
    c.is_empty.ensures ∙ sym (c.loop-i.invariant ∙ contains-end c.args.word.now c.args.value.now _ c.loop-i-test.false)
