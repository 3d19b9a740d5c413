-- Hours up to the first colon, and what follows them.
use Prim.Native.Nat.{◌+◌}
use mathlib.Core.Path.{sym, ◌∙◌}
use Rattle.scan.specs.Split.{split_at}
use Rattle.times.specs.Expressions.{◌>>=◌, whole_in}
use Rattle.times.specs.Steps.{after_hours}
use Rattle.times.proofs.Parts.{no_number, first-length, rest_of, hours_last, hours_more, hours_none}
use Rattle.times.proofs.clock.clock_time.Goals as goal

pub returns-then-text-colon : goal.returns-then-text-colon
returns-then-text-colon c =
    sym (hours_last _ _ c.find_byte-colon.ensures _ c.if-text-colon.true)

pub slice_bounds-integer-end : goal.slice_bounds-integer-end
slice_bounds-integer-end c =
    first-length _ _ _ c.find_byte-colon.ensures

pub returns : goal.returns
returns c =
    let hours = sym c.in-Some.is ∙ c.integer.ensures in
    let rest = rest_of c.args.text.now (c.find_byte-colon.result + 1) in
    c.after_hours.ensures
    ∙ ((λ i. whole_in (hours i) >>= λ x. after_hours x (split_at 58 (rest i)) c.args.ctx)
    ∙ sym (hours_more _ _ c.find_byte-colon.ensures c.args.ctx c.if-text-colon.false))

pub returns-in_default : goal.returns-in_default
returns-in_default c =
    hours_none _ _ c.find_byte-colon.ensures _ _ c.integer.ensures (no_number _ c.in_default.not-Some) c.if-text-colon.false
