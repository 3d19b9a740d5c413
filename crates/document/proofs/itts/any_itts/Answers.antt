use mathlib.Core.Path.{sym, ◌∙◌}
use native.Mathlib.Omega.{arith}
use borrow.Author.Rules.{rules}
use Rattle.track.specs.Tables.{cell}
use Rattle.records.proofs.Finding.{row_within}
use Rattle.document.specs.Roots.{itts_row}
use Rattle.document.proofs.SomeRows.{searching_start, searching_step, searching_found, searching_done}
use Rattle.document.proofs.itts.any_itts.Goals as goal

-- src/itts.rt:68:5
pub loop-i-init : goal.loop-i-init
loop-i-init c =
    searching_start _ _ _

-- src/itts.rt:69:38
pub overflow_mul-i : goal.overflow_mul-i
overflow_mul-i c =
    let h = row_within _ _ _ _ c.loop-i-test.true c.requires.rows in
    search (rules, h)

-- src/itts.rt:69:38
pub overflow_add-i : goal.overflow_add-i
overflow_add-i c =
    let h = row_within _ _ _ _ c.loop-i-test.true c.requires.rows in
    let g = c.requires.two in
    search (rules, h, g)

-- src/itts.rt:69:13
pub get-first-requires : goal.get-first-requires
get-first-requires c =
    omega (
      arith,
      row_within _ _ _ _ c.loop-i-test.true c.requires.rows,
      c.requires.two,
    )

-- src/itts.rt:70:38
pub overflow_mul-i-in-loop-i : goal.overflow_mul-i-in-loop-i
overflow_mul-i-in-loop-i c =
    let h = row_within _ _ _ _ c.loop-i-test.true c.requires.rows in
    search (rules, h)

-- src/itts.rt:70:51
pub overflow_add-at : goal.overflow_add-at
overflow_add-at c =
    let h = row_within _ _ _ _ c.loop-i-test.true c.requires.rows in
    let g = c.requires.two in
    search (rules, h, g)

-- src/itts.rt:70:38
pub overflow_add-i-in-loop-i : goal.overflow_add-i-in-loop-i
overflow_add-i-in-loop-i c =
    let h = row_within _ _ _ _ c.loop-i-test.true c.requires.rows in
    let g = c.requires.two in
    search (rules, h, g)

-- src/itts.rt:70:13
pub get-count-requires : goal.get-count-requires
get-count-requires c =
    omega (
      arith,
      row_within _ _ _ _ c.loop-i-test.true
          c.requires.rows,
      c.requires.two,
    )

-- src/itts.rt:71:12
pub holds_itts-requires : goal.holds_itts-requires
unfolding cell
holds_itts-requires c =
    rw (c.get-first.ensures, c.get-count.ensures)
    (c.requires.extras c.loop-i.i
    (omega (arith, c.loop-i-test.true)))

-- src/itts.rt:72:13
pub returns-then-holds_itts : goal.returns-then-holds_itts
unfolding itts_row cell
returns-then-holds_itts c =
    let e = rw (c.get-first.ensures, c.get-count.ensures) at
    (sym c.holds_itts.ensures ∙ c.if-holds_itts.true) in
    sym (searching_found _ _ _ _ c.loop-i.invariant
    (omega (arith, c.loop-i-test.true)) e)

-- src/itts.rt:68:5
pub loop-i-preserved : goal.loop-i-preserved
unfolding itts_row cell
loop-i-preserved c =
    let e = rw (c.get-first.ensures, c.get-count.ensures) at (sym c.holds_itts.ensures ∙ c.if-holds_itts.false) in
    searching_step _ _ _ _ c.loop-i.invariant
    (omega (arith, c.loop-i-test.true)) e

-- src/itts.rt:55:1
pub returns : goal.returns
returns c =
    sym (searching_done _ _ _ _ c.loop-i.invariant (omega (arith, c.loop-i-test.false)))
