-- A clock time written at a place: hours, minutes, seconds and milliseconds, each laid where the one before ends.
use Prim.Native.Nat.{◌/◌, ◌%◌}
use mathlib.Core.Path.{refl, ap, ◌∙◌}
use mir.Syntax.{w64}
use mir.ValLaws.{to_z-of_z}
use native.Mathlib.Omega.{arith}
use Rattle.times.specs.Written.{millis}
use Rattle.times.proofs.Clocks.{hours_few, text-length, field-length, clock-laid}
use Rattle.times.proofs.write.format_ts.Goals as goal

pub overflow_add-width : goal.overflow_add-width
overflow_add-width c =
    omega (arith, hours_few (c.milliseconds-ms.result / 3600000))

pub returns-then-out-at : goal.returns-then-out-at
returns-then-out-at c =
    let long = text-length c.args.us _ (c.milliseconds-ms.ensures ∙ ap millis (to_z-of_z w64 _ c.ranges.us)) in
    (omega arith, refl)

pub put_field-seconds-requires : goal.put_field-seconds-requires
put_field-seconds-requires c =
    omega (arith, field-length c.hours_width-width.result (c.milliseconds-ms.result / 3600000) 58)

pub put_field-rest-requires : goal.put_field-rest-requires
put_field-rest-requires c =
    omega (
      arith,
      field-length c.hours_width-width.result (c.milliseconds-ms.result / 3600000) 58,
      field-length 2
          (c.milliseconds-ms.result / 60000 % 60) 58,
      c.put_field-seconds.auto.out,
      c.put_field-minutes.auto.out,
    )

pub put_digits-requires : goal.put_digits-requires
put_digits-requires c =
    omega (
      arith,
      field-length c.hours_width-width.result (c.milliseconds-ms.result / 3600000) 58,
      field-length 2
          (c.milliseconds-ms.result / 60000 % 60) 58,
      field-length 2 (c.milliseconds-ms.result / 1000 % 60) 46,
      c.put_field-rest.auto.out,
      c.put_field-seconds.auto.out,
      c.put_field-minutes.auto.out,
    )

pub returns : goal.returns
returns c =
    clock-laid c.args.us _ (c.milliseconds-ms.ensures
    ∙ ap millis (to_z-of_z w64 _ c.ranges.us)) c.args.out.now c.put_field-minutes.new.out c.put_field-seconds.new.out c.put_field-rest.new.out c.put_digits.new.out
    c.args.at c.hours_width-width.result c.put_field-minutes.result c.put_field-seconds.result c.put_field-rest.result c.put_digits.result c.hours_width-width.ensures
    c.put_field-minutes.ensures c.put_field-minutes.auto.out c.put_field-seconds.ensures (c.put_field-seconds.auto.out ∙ c.put_field-minutes.auto.out) c.put_field-rest.ensures (c.put_field-rest.auto.out
    ∙ c.put_field-seconds.auto.out ∙ c.put_field-minutes.auto.out) c.put_digits.ensures
