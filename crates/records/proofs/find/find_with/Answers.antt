use mathlib.Core.Path.{sym, ◌∙◌}
use native.Mathlib.Omega.{arith}
use native.Mathlib.Nat.{sub-zero}
use Rattle.records.proofs.Finding.{first_with-of, first_out, first-hit, first-miss, with_both, with_none, with_other}
use Rattle.records.proofs.Finding.{row_within}
use Rattle.records.proofs.find.find_with.Goals as goal
use Rattle.records.proofs.find.find_with.Goals.{else-cells-i-ne0-via-then-cells-i-ne0+else-is_named, else-cells-i-ne0-via-else-cells-i-ne0}

pub loop-i-init : goal.loop-i-init
loop-i-init c =
    rw sub-zero (first_with-of c.args.cells.now c.args.strings.now
    c.args.name.now _ _ _ 0)

pub overflow_mul-i : goal.overflow_mul-i
overflow_mul-i c =
    omega (arith, row_within _ _ _ _ c.loop-i-test.true c.requires.0.rows)

pub overflow_add-i : goal.overflow_add-i
overflow_add-i c =
    omega (arith, row_within _ _ _ _ c.loop-i-test.true c.requires.0.rows)

pub offset_bounds-cells-i : goal.offset_bounds-cells-i
offset_bounds-cells-i c =
    omega (arith, row_within _ _ _ _ c.loop-i-test.true c.requires.0.rows)

pub bounds-cells-i : goal.bounds-cells-i
bounds-cells-i c =
    omega (
      arith,
      row_within _ _ _ _ c.loop-i-test.true
          c.requires.0.rows,
    )

pub overflow_mul-i-then-cells-i-ne0 : goal.overflow_mul-i-then-cells-i-ne0
overflow_mul-i-then-cells-i-ne0 c =
    omega (
      arith,
      row_within _ _ _ _ c.loop-i-test.true
          c.requires.0.rows,
    )

pub is_named-requires : goal.is_named-requires
is_named-requires c =
    let h = row_within _ _ _ _ c.loop-i-test.true c.requires.0.rows in
    let w = c.requires.0.two in
    (omega arith, c.requires.0.within _ c.loop-i-test.true)

pub returns-then-is_named : goal.returns-then-is_named
returns-then-is_named c =
    sym (c.loop-i.invariant
    ∙ first-hit _ _ _ c.loop-i-test.true
    (with_both _ _ _ _ _ _ c.if-cells-i-ne0.true (sym c.is_named.ensures ∙ c.if-is_named.true)))

pub returns : goal.returns
returns c =
    sym (c.loop-i.invariant ∙ first_out _ _ _ c.loop-i-test.false)

pub loop-i-preserved : goal.loop-i-preserved
loop-i-preserved c =
    c.loop-i.invariant ∙ first-miss _ _ _ c.loop-i-test.true (elim c.else-cells-i-ne0.branch [
      | else-cells-i-ne0-via-then-cells-i-ne0+else-is_named w ↦ with_other _ _ _ _ _ _ w.if-cells-i-ne0.true (sym w.is_named.ensures ∙ w.if-is_named.false)
      | else-cells-i-ne0-via-else-cells-i-ne0 w ↦ with_none c.args.cells.now c.args.strings.now c.args.name.now c.args.width c.args.needed _ w.if-cells-i-ne0.false
    ])
