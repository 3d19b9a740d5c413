-- Seconds by the first point, or without one.
use Rattle.std.specs.Prelude.{Option}
use Prim.Native.Nat.{◌+◌}
use mathlib.Core.Path.{sym, ap, ◌∙◌}
use lib.IntN.{pos, ◌*ℤ◌}
use Rattle.times.specs.Expressions.{◌>>=◌, time_of, tested, whole_in}
use Rattle.times.specs.Steps.{fractioned}
use Rattle.times.proofs.Parts.{no_number, first-length, rest_of, point_none, point_here, point_nothing}
use Rattle.times.proofs.clock.seconds.Goals as goal
use Rattle.numerals.specs.declared.Whole.{Whole}

pub slice_bounds-integer-end : goal.slice_bounds-integer-end
slice_bounds-integer-end c =
    first-length _ _ _ c.find_byte-point.ensures

pub returns-then-point-text : goal.returns-then-point-text
returns-then-point-text c =
    let number = sym c.in-Some.is ∙ c.integer.ensures in
    let rest = rest_of c.args.text.now (c.find_byte-point.result + 1) in
    c.fractioned.ensures
    ∙ ((λ i. whole_in (number i) >>= λ n. fractioned n (rest i)) ∙ sym (point_here _ _ c.find_byte-point.ensures c.if-point-text.true))

pub returns-else-point-text : goal.returns-else-point-text
returns-else-point-text c =
    let number = sym c.in-Some.is ∙ c.integer.ensures in
    c.time_of.ensures ∙ (ap time_of c.times.ensures
    ∙ (ap (λ (n : Option Whole). whole_in n >>= λ z. tested (z *ℤ pos 1000000)) number
    ∙ sym (point_none _ _ c.find_byte-point.ensures c.if-point-text.false)))

pub returns-in_default : goal.returns-in_default
returns-in_default c =
    point_nothing _ _ c.find_byte-point.ensures _ c.integer.ensures (no_number _ c.in_default.not-Some)
