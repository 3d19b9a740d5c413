-- `reduce` meets its contract. The loop's invariant: what is left reduces to what the decimal does. The measure is the scale.
use Rattle.std.proofs.Common.{◌≡◌}
use Rattle.decimals.specs.Size.{reduced}
use Rattle.decimals.proofs.size.reduce.Given as goal

abbrev pub invariant-loop-least : goal.invariant-loop-least
invariant-loop-least l = reduced l.fn.d ≡ reduced l.least

abbrev pub decreases-loop-least : goal.decreases-loop-least
decreases-loop-least l = l.least.scale
