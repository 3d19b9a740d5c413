-- `optional_at` meets its contract. Assumes nothing.
use Prim.Native.Nat.{◌+◌}
use mathlib.Core.Path.{◌≡◌, ◌∙◌}
use lib.ListN.{get_or}
use borrow.Author.Tests.{eq-eqb, ne_eqb}
use native.Mathlib.Omega.{arith}
use Rattle.track.specs.Tables.{optional}
use Rattle.track.proofs.parts.optional_at.Goals as goal

pub returns-then-cells-at-eq1 : goal.returns-then-cells-at-eq1
unfolding optional
returns-then-cells-at-eq1 c =
    let two : c.args.at + 1 + 1 ≡ c.args.at + 2 = omega arith in
    c.span_at.ensures ∙ rw (two, eq-eqb (get_or c.args.cells.now c.args.at 0) 1 c.if-cells-at-eq1.true)

pub returns : goal.returns
unfolding optional
returns c =
    rw (ne_eqb (get_or c.args.cells.now c.args.at 0) 1 c.if-cells-at-eq1.false)
