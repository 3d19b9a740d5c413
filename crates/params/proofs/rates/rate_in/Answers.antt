-- `rate_in`: the decimal of the trimmed value.
use Rattle.std.specs.Prelude.{Err}
use mathlib.Core.Path.{sym, ap, ◌∙◌}
use mathlib.Core.Option.{some}
use lib.Ieee.{Float}
use Rattle.decimals.proofs.Reading.{decimal-limits}
use Rattle.times.specs.Expressions.{time_decimal}
use Rattle.meaning.specs.Answers.{is}
use Rattle.meaning.specs.Meaning.{rate_answer}
use Rattle.params.proofs.rates.rate_in.Goals as goal

pub to_f64-requires : goal.to_f64-requires
to_f64-requires c =
    let w = decimal-limits 15 22 _ (sym c.read_decimal.ensures.is ∙ c.in-Ok.is) in (w.small, w.near)

pub returns-in-Ok : goal.returns-in-Ok
returns-in-Ok c =
    ap (λ (x : Float). is (some x)) c.to_f64.ensures
    ∙ ap (rate_answer c.args.at) (sym c.in-Ok.is ∙ (c.read_decimal.ensures.is ∙ ap time_decimal c.trim-span.ensures.is))

pub returns-in-Err-Invalid : goal.returns-in-Err-Invalid
returns-in-Err-Invalid c =
    ap (rate_answer c.args.at) (sym (c.in-Err-Invalid.is ∙ ap Err c.in-Err-Invalid.field-0-is) ∙ (c.read_decimal.ensures.is
    ∙ ap time_decimal c.trim-span.ensures.is))

pub returns-in-Err-Beyond : goal.returns-in-Err-Beyond
returns-in-Err-Beyond c =
    ap (rate_answer c.args.at) (sym (c.in-Err-Beyond.is ∙ ap Err c.in-Err-Beyond.field-0-is) ∙ (c.read_decimal.ensures.is
    ∙ ap time_decimal c.trim-span.ensures.is))
