use Prim.Native.Nat.{◌+◌, ◌-◌}
use mathlib.Core.Path.{◌≡◌, sym, ◌∙◌}
use native.Mathlib.Omega.{arith}
use Rattle.meaning.specs.Styling.{number_byte}
use Rattle.styling.proofs.Lasting.{last_start, last_here, last_next, last_none}
use Rattle.styling.proofs.sizes.number_end.Goals as goal

pub loop-i-init : goal.loop-i-init
loop-i-init c =
    last_start number_byte _

pub returns-then-is_number : goal.returns-then-is_number
returns-then-is_number c =
    let z : c.loop-i.i - 1 + 1 ≡ c.loop-i.i = omega (arith, c.loop-i-test.true) in
    rw z (
      c.loop-i.auto.i,
      sym (c.loop-i.invariant ∙ last_here number_byte _ _ c.loop-i-test.true c.loop-i.auto.i (sym c.is_number.ensures
          ∙ c.if-is_number.true)),
    )

pub loop-i-preserved : goal.loop-i-preserved
loop-i-preserved c =
    c.loop-i.invariant ∙ last_next number_byte _ _ c.loop-i-test.true c.loop-i.auto.i (sym c.is_number.ensures ∙ c.if-is_number.false)

pub returns : goal.returns
returns c =
    (omega arith, sym (c.loop-i.invariant ∙ last_none number_byte _ _ (omega arith)))
