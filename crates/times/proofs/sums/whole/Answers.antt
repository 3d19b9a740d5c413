-- The i64 of a sign and a magnitude: below zero it is reached by taking one off before the cast and one more after it.
use mathlib.Core.Path.{refl, sym, ◌∙◌}
use native.Mathlib.Omega.{arith}
use lib.IntN.{pos, neg_ℤ}
use mir.Syntax.{w64}
use mir.ValLaws.{to_z-of_z}
use Rattle.times.proofs.Summing.{checked-is, checked-over, low_bits, less_one, negative_fits, signed-over}
use Rattle.times.proofs.sums.whole.Goals as goal

pub returns-then-size-gt9223372036854775808 : goal.returns-then-size-gt9223372036854775808
returns-then-size-gt9223372036854775808 c =
    let w = c.args.w in sym (signed-over w.negative w.magnitude (omega arith))

pub returns-then-size-eq0 : goal.returns-then-size-eq0
returns-then-size-eq0 c =
    rw (c.if-w.true, c.if-size-eq0.true) (checked-is (pos 0) (pos 0) refl (omega arith))

pub overflow_sub-result-then-w : goal.overflow_sub-result-then-w
overflow_sub-result-then-w c =
    let m = c.args.w.magnitude in rw (less_one m (omega arith) (omega arith)) (record { sfits = negative_fits m (omega arith) })

pub returns-then-size-gt9223372036854775807 : goal.returns-then-size-gt9223372036854775807
returns-then-size-gt9223372036854775807 c =
    rw c.if-w.false (sym (checked-over (pos _) (omega arith)))

pub returns : goal.returns
returns c =
    rw c.if-w.false (checked-is (pos _) _ (low_bits _ (omega arith)) (omega arith))

pub returns-then-w : goal.returns-then-w
returns-then-w c =
    let m = c.args.w.magnitude in
    rw c.if-w.true (checked-is (neg_ℤ (pos m)) _ (to_z-of_z w64 _ (rw (less_one m (omega arith) (omega arith)) (record { sfits = negative_fits m (omega arith) }))
    ∙ less_one m (omega arith) (omega arith)) (negative_fits m (omega arith)))
