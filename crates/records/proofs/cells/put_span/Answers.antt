-- `put_span` meets its contract: two stores, a place and a length. Assumes nothing.
use native.Mathlib.Omega.{arith}
use native.Mathlib.Numerals.{add-one}
use lib.ListN.{length-set}
use Rattle.records.proofs.cells.put_span.Goals as goal

pub bounds-cells-at-2 : goal.bounds-cells-at-2
bounds-cells-at-2 c =
    simp length-set (omega arith)

pub returns : goal.returns
returns c =
    simp add-one
