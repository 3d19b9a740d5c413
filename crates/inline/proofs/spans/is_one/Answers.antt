-- `is_one` meets its contract: the first row has all rows. Assumes nothing.
use Rattle.track.specs.Track.{segment_rows}
use Prim.Native.Nat.{◌-◌}
use mathlib.Core.Path.{◌≡◌}
use native.Mathlib.Omega.{arith}
use borrow.Author.Tests.{eq-eqb}
use Rattle.inline.proofs.Spanning.{none-one, first_rows}
use Rattle.inline.proofs.spans.is_one.Goals as goal

pub returns-then-first-end : goal.returns-then-first-end
returns-then-first-end c =
    λ pre rest f l e n. let m : c.args.end - c.args.first ≡ segment_rows f = omega (arith, n) in
    rw (c.get.ensures, m) (first_rows c.args.segments.now pre rest f c.args.first c.args.end l e n (omega (arith, n)))

pub returns-else-first-end : goal.returns-else-first-end
returns-else-first-end c =
    λ pre rest f l e n. rw (eq-eqb _ _ c.if-first-end.false) (none-one f (omega (arith, n)))
