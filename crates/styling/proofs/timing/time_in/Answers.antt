-- `time_in` answers what `time_answer` does, case by case.
use Rattle.std.specs.Prelude.{Err, Some, Ok}
use native.Mathlib.Omega.{arith}
use mathlib.Core.Path.{sym, ap, ◌∙◌}
use lib.IntN.{ℤ}
use mir.Syntax.{w64}
use mir.ValLaws.{to_z-of_z}
use Rattle.meaning.specs.Timing.{time_answer}
use Rattle.styling.specs.Posts.{time_said}
use Rattle.styling.proofs.timing.time_in.Goals as goal

pub returns-in-Ok : goal.returns-in-Ok
returns-in-Ok c =
    ap (λ (z : ℤ). time_said (Ok (Some z))) (to_z-of_z w64 _ (record { sfits = omega arith }))
    ∙ ap (time_answer c.args.element c.args.h.at) (sym c.in-Ok.is ∙ rw c.value.ensures at c.parse_ttml_time.ensures.is)

pub returns-in-Err-Invalid : goal.returns-in-Err-Invalid
returns-in-Err-Invalid c =
    ap (time_answer c.args.element c.args.h.at) (sym (c.in-Err-Invalid.is ∙ ap Err c.in-Err-Invalid.field-0-is) ∙ rw c.value.ensures at c.parse_ttml_time.ensures.is)

pub returns-in-Err-Beyond : goal.returns-in-Err-Beyond
returns-in-Err-Beyond c =
    rw c.refused.ensures (ap (time_answer c.args.element c.args.h.at) (sym (c.in-Err-Beyond.is ∙ ap Err c.in-Err-Beyond.field-0-is)
    ∙ rw c.value.ensures at c.parse_ttml_time.ensures.is))

pub returns-in-Err-LongFraction : goal.returns-in-Err-LongFraction
returns-in-Err-LongFraction c =
    rw c.refused-in-Err-LongFraction.ensures (ap (time_answer c.args.element c.args.h.at) (sym (c.in-Err-LongFraction.is ∙ ap Err c.in-Err-LongFraction.field-0-is)
    ∙ rw c.value.ensures at c.parse_ttml_time.ensures.is))

pub returns-in-Err-Overflow : goal.returns-in-Err-Overflow
returns-in-Err-Overflow c =
    rw c.refused-in-Err-Overflow.ensures (ap (time_answer c.args.element c.args.h.at) (sym (c.in-Err-Overflow.is ∙ ap Err c.in-Err-Overflow.field-0-is)
    ∙ rw c.value.ensures at c.parse_ttml_time.ensures.is))
