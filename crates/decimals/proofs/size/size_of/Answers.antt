-- `size_of` meets its contract: what `reduce` leaves is within the limits.
use Rattle.std.proofs.Common.{arith}
use Rattle.decimals.specs.Size.{size_of}
use Rattle.decimals.proofs.Sizes.{Least, reduced-is}
use Rattle.decimals.proofs.size.size_of.Goals as goal
use Rattle.decimals.proofs.size.size_of.Goals.{After-reduce-least}

least : (c : After-reduce-least) → Least c.args.d.negative c.args.d.digits c.args.d.scale c.reduce-least.result
least c = rw c.reduce-least.ensures (reduced-is c.args.d)

pub to_f32-requires : goal.to_f32-requires
to_f32-requires c =
    omega (arith, (least (goal.at.to_f32-requires c).After-reduce-least).fewer, (least (goal.at.to_f32-requires c).After-reduce-least).nearer)

pub overflow_cast-result : goal.overflow_cast-result
overflow_cast-result c =
    omega (arith, (least (goal.at.overflow_cast-result c).After-reduce-least).fewer)

pub returns : goal.returns
unfolding size_of
returns c =
    rw (c.to_f32.ensures, c.reduce-least.ensures)
