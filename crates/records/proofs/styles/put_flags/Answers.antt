use lib.ListN.{length-set}
use mathlib.Core.List.{[], ◌∷◌}
use mathlib.Core.Path.{refl, ap}
use lib.ListN.{set}
use native.Mathlib.Omega.{arith}
use Rattle.track.specs.Layout.{flag, flag_cells}
use Rattle.records.proofs.Storing.{first, then_cell}
use Rattle.records.proofs.styles.put_flags.Goals as goal

-- src/styles.rt:94:5
pub bounds-styles-at-2 : goal.bounds-styles-at-2
bounds-styles-at-2 c =
    simp length-set (omega arith)

-- src/styles.rt:95:5
pub bounds-styles-at-3 : goal.bounds-styles-at-3
bounds-styles-at-3 c =
    simp length-set (omega arith)

-- src/styles.rt:96:5
pub bounds-styles-at-4 : goal.bounds-styles-at-4
bounds-styles-at-4 c =
    simp length-set (omega arith)

-- src/styles.rt:97:5
pub bounds-styles-at-5 : goal.bounds-styles-at-5
bounds-styles-at-5 c =
    simp length-set (omega arith)

-- src/styles.rt:88:1
pub returns : goal.returns
unfolding flag_cells
returns c =
    let a = first c.args.styles.now c.args.at (flag c.args.x.bold ∷ [])
    (ap (λ z. set c.args.styles.now c.args.at z) c.flag_cell.ensures) refl in
    (then_cell (then_cell (then_cell (then_cell a c.flag_cell-2.ensures) c.flag_cell-3.ensures)
    c.flag_cell-4.ensures) c.align_cell.ensures).is
