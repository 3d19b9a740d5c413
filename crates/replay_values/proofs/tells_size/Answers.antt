-- `tells_size` is safe: a decimal is within the limits that it was read by.
use mathlib.Core.Path.{sym, ◌∙◌}
use Rattle.decimals.proofs.Reading.{decimal-limits}
use Rattle.replay_values.proofs.tells_size.Goals as goal

pub size_of-requires : goal.size_of-requires
size_of-requires c =
    let w = decimal-limits 6 10 _ (sym c.read_decimal.ensures.is ∙ c.in-Ok.is) in
    (w.small, w.near)
