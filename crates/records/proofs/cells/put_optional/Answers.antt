-- `put_optional` meets its contract: three stores, or one and a span. Assumes nothing.
use mathlib.Core.Path.{ap, ◌∙◌}
use native.Mathlib.Omega.{arith}
use native.Mathlib.Numerals.{add-one, add-two}
use lib.ListN.{length, length-set}
use lib.Seq.{length-sets}
use Rattle.records.proofs.cells.put_optional.Goals as goal

pub put_span-requires : goal.put_span-requires
put_span-requires c =
    (simp length-set (omega arith), c.requires.1)

pub bounds-cells-at-else-has-2 : goal.bounds-cells-at-else-has-2
bounds-cells-at-else-has-2 c =
    simp length-set (omega arith)

pub bounds-cells-at-else-has-3 : goal.bounds-cells-at-else-has-3
bounds-cells-at-else-has-3 c =
    simp length-set (omega arith)

pub shape_of-cells-then-has : goal.shape_of-cells-then-has
shape_of-cells-then-has c =
    ap length c.put_span.ensures ∙ simp (length-sets, length-set)

pub returns-then-has : goal.returns-then-has
returns-then-has c =
    c.put_span.ensures ∙ rw (c.if-has.true, add-one)

pub returns-else-has : goal.returns-else-has
returns-else-has c =
    rw c.if-has.false (simp (add-one, add-two))
