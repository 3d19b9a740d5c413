use mathlib.Core.Path.{◌≡◌}
use native.Mathlib.Omega.{arith}
use Rattle.styles.proofs.Clearing.{unlinked_none, unlinked_more}
use Rattle.styles.proofs.ids.clear_links.Goals as goal

pub loop-i-init : goal.loop-i-init
loop-i-init c =
    unlinked_none _

pub bounds-ids-i : goal.bounds-ids-i
bounds-ids-i c =
    omega (arith, c.loop-i.invariant.kept)

pub loop-i-preserved : goal.loop-i-preserved
loop-i-preserved c =
    unlinked_more _ _ _ c.loop-i.invariant (omega arith)

pub shape_of-ids : goal.shape_of-ids
shape_of-ids c =
    c.loop-i.invariant.kept

pub returns : goal.returns
returns c =
    let e : c.loop-i.i ≡ c.args.n = omega arith in
    rw e at c.loop-i.invariant
