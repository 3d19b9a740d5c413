-- Whole milliseconds of a time: none below zero, and from zero on the quotient.
use mathlib.Core.Path.{sym}
use mir.Syntax.{w64}
use mir.ValLaws.{to_z-of_z}
use Rattle.times.proofs.Summing.{millis-below, millis-unsigned, millis-above}
use Rattle.times.proofs.write.milliseconds.Goals as goal

pub returns-then-us-lt0 : goal.returns-then-us-lt0
returns-then-us-lt0 c =
    sym (millis-below c.args.us _ (to_z-of_z w64 _ c.ranges.us) c.if-us-lt0.true)

pub overflow_cast-result : goal.overflow_cast-result
overflow_cast-result c =
    let u = millis-unsigned c.args.us _ (to_z-of_z w64 _ c.ranges.us) c.if-us-lt0.false c.ranges.us.sfits in
    (u.0, record { fits = u.1 })

pub returns : goal.returns
returns c =
    millis-above c.args.us _ (to_z-of_z w64 _ c.ranges.us) c.if-us-lt0.false
