use mathlib.Core.Path.{sym, ◌∙◌}
use native.Mathlib.Omega.{arith}
use native.Mathlib.Nat.{sub-zero}
use Rattle.records.proofs.Finding.{first_row-of, first_out, first-hit, first-miss, row_within}
use Rattle.records.proofs.find.find_row.Goals as goal

pub loop-i-init : goal.loop-i-init
loop-i-init c =
    rw sub-zero (first_row-of c.args.cells.now c.args.strings.now
    c.args.name.now _ _ 0)

pub overflow_mul-i : goal.overflow_mul-i
overflow_mul-i c =
    omega (arith, row_within _ _ _ _ c.loop-i-test.true c.requires.rows)

pub is_named-requires : goal.is_named-requires
is_named-requires c =
    let h = row_within _ _ _ _ c.loop-i-test.true c.requires.rows in
    let w = c.requires.two in
    (omega arith, c.requires.within _ c.loop-i-test.true)

pub returns-then-is_named : goal.returns-then-is_named
returns-then-is_named c =
    sym (c.loop-i.invariant ∙ first-hit _ _ _ c.loop-i-test.true
    (sym c.is_named.ensures ∙ c.if-is_named.true))

pub loop-i-preserved : goal.loop-i-preserved
loop-i-preserved c =
    c.loop-i.invariant
    ∙ first-miss _ _ _ c.loop-i-test.true (sym c.is_named.ensures ∙ c.if-is_named.false)

pub returns : goal.returns
returns c =
    sym (c.loop-i.invariant ∙ first_out _ _ _ c.loop-i-test.false)
