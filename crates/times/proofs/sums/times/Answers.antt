-- A whole number of units: a product past 64 bits is none, and `whole` says of any other whether it is an i64.
use Prim.Native.Nat.{ℕ, ◌*◌, ◌^◌, ◌<◌}
use mathlib.Core.Path.{sym, ap, ◌∙◌}
use native.Mathlib.Omega.{arith}
use Rattle.times.specs.Sums.{checked, signed}
use Rattle.times.proofs.Summing.{signed-over, signed-times}
use Rattle.times.proofs.sums.times.Goals as goal

pub returns-in_err-checked_mul : goal.returns-in_err-checked_mul
returns-in_err-checked_mul c =
    let w = c.args.w in
    let h = rw c.in_err-checked_mul.was at c.checked_mul.ensures in
    let over : 2 ^ 63 < w.magnitude * c.args.unit = omega (arith, h) in
    rw c.from_residual.ensures (sym (ap checked (signed-times w.negative w.magnitude c.args.unit) ∙ signed-over w.negative (w.magnitude * c.args.unit) over))

pub returns : goal.returns
returns c =
    let w = c.args.w in
    c.whole.ensures ∙ ap checked (ap (λ (n : ℕ). signed w.negative n) c.in_ok-checked_mul.ensures.1 ∙ sym (signed-times w.negative w.magnitude c.args.unit))
