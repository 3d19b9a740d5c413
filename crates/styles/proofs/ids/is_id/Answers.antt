-- `is_id` meets its contract: the row's first cell says where the id stands. Assumes nothing.
use Prim.Native.Nat.{◌*◌}
use native.Mathlib.Omega.{arith}
use lib.Dec.{eqb}
use lib.ListN.{get_or}
use borrow.Author.Tests.{eqb-true, eqb-false, ne_eqb}
use Rattle.scan.proofs.Every.{by-test}
use Rattle.styles.proofs.Search.{row-text, row-strings}
use Rattle.scan.specs.Part.{string_at}
use Rattle.styles.specs.Ids.{id_at}
use Rattle.styles.proofs.ids.is_id.Goals as goal

pub overflow_add-end : goal.overflow_add-end
overflow_add-end c =
    let w = c.requires.1 in
    by-test (eqb (get_or c.args.ids.now (c.args.row * 4) 0) 0)
    (λ e. omega (arith, row-text _ _ _ _ w (eqb-true _ _ e), c.get-start.ensures, c.get.ensures))
    (λ e. omega (arith, row-strings _ _ _ _ w (eqb-false _ _ e), c.get-start.ensures, c.get.ensures))

pub slice_bounds-same-end : goal.slice_bounds-same-end
slice_bounds-same-end c =
    let w = c.requires.1 in
    omega (arith, row-text _ _ _ _ w c.if-ids-row-eq0.true, c.get-start.ensures, c.get.ensures)

pub returns-then-ids-row-eq0 : goal.returns-then-ids-row-eq0
unfolding id_at string_at
returns-then-ids-row-eq0 c =
    rw (
      c.same.ensures,
      c.if-ids-row-eq0.true,
      c.get-start.ensures,
      c.get.ensures,
    )

pub slice_bounds-same-end-2 : goal.slice_bounds-same-end-2
slice_bounds-same-end-2 c =
    let w = c.requires.1 in
    omega (arith, row-strings _ _ _ _ w c.if-ids-row-eq0.false, c.get-start.ensures, c.get.ensures)

pub returns : goal.returns
unfolding id_at string_at
returns c =
    rw (
      c.same-2.ensures,
      ne_eqb (get_or c.args.ids.now (c.args.row * 4) 0) 0 c.if-ids-row-eq0.false,
      c.get-start.ensures,
      c.get.ensures,
    )
