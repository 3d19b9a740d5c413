-- Seconds and a fraction: a long one where its first six characters have more than six bytes, and summed elsewhere.
use Rattle.std.specs.Prelude.{Some}
use mathlib.Core.Path.{◌≡◌, ap, ◌∙◌}
use native.Mathlib.Omega.{arith}
use lib.IntN.{pos, ◌*ℤ◌}
use lib.ListN.{take}
use borrow.Author.Tests.{lt-ltb, le-ltb}
use Rattle.times.specs.Expressions.{chars_length, time_of, micros_of}
use Rattle.times.specs.Sums.{checked}
use Rattle.times.specs.Steps.{plus, number}
use Rattle.times.proofs.Fractions.{chars_within}
use Rattle.times.proofs.Parts.{plus-then}
use Rattle.times.proofs.clock.fractioned.Goals as goal

pub returns-then-len-gt6 : goal.returns-then-len-gt6
returns-then-len-gt6 c =
    let long = lt-ltb 6 (chars_length 6 c.args.fraction.now) (omega arith) in
    rw long

pub micros-requires : goal.micros-requires
micros-requires c =
    (omega arith, omega (arith, chars_within 6 c.args.fraction.now))

pub returns : goal.returns
returns c =
    let f = c.args.fraction.now in
    let short = le-ltb 6 (chars_length 6 f) (omega arith) in
    let same : c.six_chars-len.result ≡ chars_length 6 f = omega arith in
    let digits = c.micros.ensures ∙ (λ j. Some (micros_of (take (same j) f))) in
    let sum = c.plus.ensures ∙ (λ i. plus (c.times.ensures i) (digits i)) in
    rw short (c.time_of.ensures ∙ (ap time_of sum ∙ plus-then (checked (number c.args.seconds *ℤ pos 1000000)) _))
