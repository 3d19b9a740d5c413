-- `size_marks` meets its contract: no part is longer than its bits.
use Prim.Native.Nat.{◌≤◌}
use mathlib.Core.Path.{◌≡◌}
use mathlib.Core.Bool.{cond}
use native.Mathlib.Omega.{arith}
use borrow.Author.Tests.{not-true, not-false}
use Rattle.track.specs.Layout.{size_marks}
use Rattle.track.proofs.marks.size_marks.Goals as goal
use Rattle.track.proofs.marks.size_marks.Goals.{Joined-s, then-s, else-s}

signs : (c : Joined-s) → (c.if-s.sign ≡ cond c.args.s.negative 2 1) × (c.if-s.sign ≤ 2)
signs c = elim c.if-s.branch [
  | then-s w ↦ (rw w.if-s.true w.sign-is, omega (arith, w.sign-is))
  | else-s w ↦ (rw w.if-s.false w.sign-is, omega (arith, w.sign-is))
]

pub returns-then-not-has : goal.returns-then-not-has
unfolding size_marks
returns-then-not-has c =
    rw (not-true c.args.has c.if-not-has.true-raw)

pub overflow_mul-result : goal.overflow_mul-result
overflow_mul-result c =
    omega (arith, signs (goal.at.overflow_mul-result c).Joined-s)

pub overflow_add-result : goal.overflow_add-result
overflow_add-result c =
    omega (arith, signs (goal.at.overflow_add-result c).Joined-s)

pub overflow_add-result-2 : goal.overflow_add-result-2
overflow_add-result-2 c =
    omega (arith, signs (goal.at.overflow_add-result-2 c).Joined-s)

pub returns : goal.returns
unfolding size_marks
returns c =
    rw (not-false c.args.has c.if-not-has.false-raw, (signs (goal.at.returns c).Joined-s).0)
