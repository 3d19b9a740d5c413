-- `size_in` answers what `size_answer` does, case by case.
use Rattle.std.specs.Prelude.{Err, Some, Ok}
use mathlib.Core.Path.{sym, ap, ◌∙◌}
use Rattle.decimals.specs.declared.size.Size.{Size}
use Rattle.decimals.proofs.Reading.{decimal-limits}
use Rattle.meaning.specs.Styling.{size_answer}
use Rattle.styling.specs.Posts.{size_said}
use Rattle.styling.proofs.sizes.size_in.Goals as goal

pub size_of-requires : goal.size_of-requires
size_of-requires c =
    let w = decimal-limits 6 10 _ (sym c.read_decimal.ensures.is ∙ c.in-Ok.is) in (w.small, w.near)

pub returns-in-Ok : goal.returns-in-Ok
returns-in-Ok c =
    ap (λ (z : Size). size_said (Ok (Some z))) c.size_of.ensures ∙ ap (size_answer c.args.at) (sym c.in-Ok.is
    ∙ c.read_decimal.ensures.is)

pub returns-in-Err-Invalid : goal.returns-in-Err-Invalid
returns-in-Err-Invalid c =
    ap (size_answer c.args.at)
    (sym (c.in-Err-Invalid.is ∙ ap Err c.in-Err-Invalid.field-0-is) ∙ c.read_decimal.ensures.is)

pub returns-in-Err-Beyond : goal.returns-in-Err-Beyond
returns-in-Err-Beyond c =
    ap (size_answer c.args.at)
    (sym (c.in-Err-Beyond.is ∙ ap Err c.in-Err-Beyond.field-0-is) ∙ c.read_decimal.ensures.is)
