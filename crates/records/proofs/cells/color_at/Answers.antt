-- `color_at` meets its contract: the cells of a colour are bytes. Assumes nothing.
use lib.ListN.{get_or}
use native.Mathlib.Omega.{arith}
use borrow.Author.Tests.{eq-eqb, ne_eqb}
use Rattle.track.specs.Tables.{color_at}
use Rattle.records.proofs.Parts.{color-bytes}
use Rattle.records.proofs.cells.color_at.Goals as goal

pub overflow_cast-result : goal.overflow_cast-result
overflow_cast-result c =
    omega (arith, (color-bytes c.args.cells.now c.args.at c.requires.1 c.if-cells-at-eq1.true).0)

pub overflow_cast-result-then-cells-at-eq1 : goal.overflow_cast-result-then-cells-at-eq1
overflow_cast-result-then-cells-at-eq1 c =
    omega (arith, (color-bytes c.args.cells.now c.args.at c.requires.1 c.if-cells-at-eq1.true).1)

pub overflow_cast-result-then-cells-at-eq1-2 : goal.overflow_cast-result-then-cells-at-eq1-2
overflow_cast-result-then-cells-at-eq1-2 c =
    omega (arith, (color-bytes c.args.cells.now c.args.at c.requires.1 c.if-cells-at-eq1.true).2)

pub overflow_cast-result-then-cells-at-eq1-3 : goal.overflow_cast-result-then-cells-at-eq1-3
overflow_cast-result-then-cells-at-eq1-3 c =
    omega (arith, (color-bytes c.args.cells.now c.args.at c.requires.1 c.if-cells-at-eq1.true).3)

pub returns-then-cells-at-eq1 : goal.returns-then-cells-at-eq1
unfolding color_at
returns-then-cells-at-eq1 c =
    rw (eq-eqb (get_or c.args.cells.now c.args.at 0) 1 c.if-cells-at-eq1.true)

pub returns : goal.returns
unfolding color_at
returns c =
    rw (ne_eqb (get_or c.args.cells.now c.args.at 0) 1 c.if-cells-at-eq1.false)
