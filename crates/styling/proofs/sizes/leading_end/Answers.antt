use mathlib.Core.Path.{◌≡◌, refl, sym, ◌∙◌}
use native.Mathlib.Omega.{arith}
use lib.ListN.{length}
use Rattle.scan.proofs.Runs.{run_on}
use Rattle.meaning.specs.Styling.{number_byte}
use Rattle.styling.proofs.Leading.{lead_here, lead_end}
use Rattle.styling.proofs.sizes.leading_end.Goals as goal

pub loop-i-init : goal.loop-i-init
loop-i-init c =
    refl

pub is_number-requires : goal.is_number-requires
is_number-requires c =
    tt

pub returns-then-not-is_number : goal.returns-then-not-is_number
returns-then-not-is_number c = (
  omega (arith, c.loop-i-test.true),
  lead_here number_byte _ _ c.loop-i.invariant c.loop-i-test.true (sym c.is_number.ensures
      ∙ c.if-not-is_number.true),
)

pub loop-i-preserved : goal.loop-i-preserved
loop-i-preserved c =
    (c.loop-i.invariant ∙ run_on number_byte _ _ c.loop-i-test.true (sym c.is_number.ensures ∙ c.if-not-is_number.false))

pub returns : goal.returns
returns c =
    let z : c.loop-i.i ≡ length c.args.value.now = omega arith in
    (omega arith, rw z at (lead_end number_byte _ _ c.loop-i.invariant c.loop-i-test.false))
