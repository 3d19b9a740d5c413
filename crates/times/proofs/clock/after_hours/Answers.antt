-- Minutes up to the next colon, and what follows them.
use Rattle.std.specs.Prelude.{Option, Some}
use Prim.Native.Nat.{◌+◌}
use mathlib.Core.Path.{◌≡◌, sym, ap, ◌∙◌}
use lib.IntN.{pos, ◌*ℤ◌}
use lib.ListN.{take}
use Rattle.scan.specs.Split.{split_at}
use Rattle.times.specs.Expressions.{◌>>=◌, integer, whole_in, time_of, hours_minutes}
use Rattle.times.specs.Sums.{checked}
use Rattle.times.specs.Steps.{number, after_minutes}
use Rattle.times.proofs.Parts.{no_number, first-length, rest_of, minutes_last, minutes_more, minutes_none, plus-then}
use Rattle.times.proofs.clock.after_hours.Goals as goal
use Rattle.numerals.specs.declared.Whole.{Whole}

pub slice_bounds-integer-end : goal.slice_bounds-integer-end
slice_bounds-integer-end c =
    first-length _ _ _ c.find_byte-colon.ensures

pub returns-then-text-colon : goal.returns-then-text-colon
returns-then-text-colon c =
    let minutes = sym c.in-Some.is ∙ c.integer.ensures in
    let hours = checked (number c.args.h *ℤ pos 3600000000) in
    c.time_of.ensures ∙ (ap time_of c.in_units.ensures ∙ (plus-then hours _
    ∙ (ap (λ (n : Option Whole). whole_in n >>= λ y. hours_minutes (number c.args.h) y) minutes
    ∙ sym (minutes_last _ _ c.find_byte-colon.ensures c.args.ctx (number c.args.h) c.if-text-colon.true))))

pub returns : goal.returns
returns c =
    let colon = c.find_byte-colon.result in
    let minutes : Some c.in-Some.m ≡ integer (take colon c.args.text.now) =
    sym c.in-Some.is ∙ c.integer.ensures in
    let rest = rest_of c.args.text.now (colon + 1) in
    c.after_minutes.ensures
    ∙ ((λ i. whole_in (minutes i) >>= λ y. after_minutes (number c.args.h) y (split_at 58 (rest i)) c.args.ctx)
    ∙ sym (minutes_more _ _ c.find_byte-colon.ensures c.args.ctx (number c.args.h) c.if-text-colon.false))

pub returns-in_default : goal.returns-in_default
returns-in_default c =
    minutes_none _ _ c.find_byte-colon.ensures c.args.ctx _ c.integer.ensures (no_number _ c.in_default.not-Some) (number c.args.h)
