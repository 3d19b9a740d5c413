use native.Mathlib.Omega.{arith}
use native.Mathlib.Numerals.{add-one, add-two}
use lib.ListN.{length-set}
use Rattle.records.proofs.Zeros.{zeroed_none, zeroed_more, zeroed_all}
use Rattle.records.proofs.segments.put_kind.Goals as goal

pub bounds-segments-at-2 : goal.bounds-segments-at-2
bounds-segments-at-2 c =
    simp length-set (omega arith)

pub loop-i-init : goal.loop-i-init
loop-i-init c =
    zeroed_none _ _ _ _ (omega arith) (simp length-set (omega arith))

pub loop-i-preserved : goal.loop-i-preserved
loop-i-preserved c =
    zeroed_more _ _ _ _ _ _ c.loop-i.invariant (omega arith)

pub shape_of-segments : goal.shape_of-segments
shape_of-segments c =
    omega (arith, simp length-set at c.loop-i.invariant.kept)

pub returns : goal.returns
returns c =
    simp (add-one, add-two) at (zeroed_all _ _ _ _ _ _ c.loop-i.invariant (omega arith))
