-- The decimal of a count without the white space around it.
use mathlib.Core.Path.{ap, ◌∙◌}
use Rattle.scan.proofs.Splits.{whole_part}
use Rattle.times.specs.Expressions.{time_decimal}
use Rattle.times.proofs.offset.read_count.Goals as goal

pub returns : goal.returns
returns c =
    let s = c.args.text.now in
    let spans = rw (whole_part s) at c.trim-span.ensures in
    c.read_decimal.ensures.is ∙ ap time_decimal spans.is
