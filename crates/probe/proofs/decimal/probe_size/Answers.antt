-- `probe_size` meets its contract: a decimal is within the limits that it was read by.
use mathlib.Core.Path.{sym, ◌∙◌}
use borrow.Author.Rules.{rules}
use Rattle.decimals.proofs.Reading.{decimal-limits}
use Rattle.probe.proofs.decimal.probe_size.Goals as goal

pub put_size-requires : goal.put_size-requires
put_size-requires c =
    let w = decimal-limits 6 10 _ (sym c.read_decimal.ensures.is ∙ c.in-Ok.is) in (search rules, w.small, w.near)
