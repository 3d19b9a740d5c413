use mathlib.Core.Path.{refl, sym, ◌∙◌}
use native.Mathlib.Omega.{arith}
use borrow.Author.Tests.{not-true, not-false}
use Rattle.scan.proofs.Runs.{skips_one, ends-skipped}
use Rattle.scan.proofs.bytes.over_near.Goals as goal

pub loop-i-init : goal.loop-i-init
loop-i-init c =
    record { after = omega arith; within = omega arith; same = refl }

pub returns-then-not-is_of : goal.returns-then-not-is_of
returns-then-not-is_of c = (
  c.loop-i.invariant,
  λ h. ends-skipped _ c.args.src.now _ _ c.loop-i.invariant (omega arith) (sym c.is_of.ensures ∙ not-true _ c.if-not-is_of.true-raw),
)

pub loop-i-preserved : goal.loop-i-preserved
loop-i-preserved c =
    skips_one _ c.args.src.now _ _ _ refl (omega arith) c.loop-i.invariant (sym c.is_of.ensures ∙ not-false _ c.if-not-is_of.false-raw)

pub returns : goal.returns
returns c =
    (c.loop-i.invariant, λ h. absurd (omega arith))
