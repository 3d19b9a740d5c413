use mathlib.Core.Path.{refl, sym, ◌∙◌}
use native.Mathlib.Omega.{arith}
use Rattle.xml.proofs.FindLaws.{has_row}
use Rattle.xml.proofs.FindSteps.{rest-here, rest-next, rest_out, onward}
use Rattle.xml.proofs.find.find_element.Goals as goal

pub loop-k-init : goal.loop-k-init
loop-k-init c =
    (c.requires, λ a f s e. record { first = a; forest = f; stands = s; end = e; is = refl })

pub is_element-requires : goal.is_element-requires
is_element-requires c =
    has_row c.loop-k.invariant.0 c.loop-k-test.true

pub returns-then-is_element : goal.returns-then-is_element
returns-then-is_element c =
    λ a f s e. rest-here (c.loop-k.invariant.1 a f s e) c.loop-k-test.true (sym c.is_element.ensures ∙ c.if-is_element.true)

pub overflow_mul-k : goal.overflow_mul-k
overflow_mul-k c =
    omega (arith, (has_row c.loop-k.invariant.0 c.loop-k-test.true).row)

pub overflow_add-k : goal.overflow_add-k
overflow_add-k c =
    omega (arith, (has_row c.loop-k.invariant.0 c.loop-k-test.true).row)

pub get-k-requires : goal.get-k-requires
get-k-requires c =
    omega (arith, (has_row c.loop-k.invariant.0 c.loop-k-test.true).row)

pub loop-k-smaller : goal.loop-k-smaller
loop-k-smaller c =
    let o = onward c.loop-k.invariant.0 c.loop-k-test.true in
    omega (arith, o.after, o.within)

pub loop-k-preserved : goal.loop-k-preserved
loop-k-preserved c =
    let e = sym c.is_element.ensures ∙ c.if-is_element.false in
    rw c.get-k.ensures (
      (onward c.loop-k.invariant.0 c.loop-k-test.true).siblings,
      λ a f s w. rest-next (c.loop-k.invariant.1 a f s w) c.loop-k-test.true e,
    )

pub returns : goal.returns
returns c =
    λ a f s e. rest_out (c.loop-k.invariant.1 a f s e) c.loop-k-test.false
