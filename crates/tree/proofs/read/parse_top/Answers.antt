use native.Mathlib.Omega.{arith}
use Rattle.scan.proofs.Handed.{handed_on}
use Rattle.tree.proofs.Going.{start, out, fail_node, idle, step, outer_node}
use Rattle.tree.proofs.read.parse_top.Goals as goal

pub loop-pos-init : goal.loop-pos-init
loop-pos-init c =
    start _ _ _ _ _ _ _ c.requires

pub loop-pos-smaller : goal.loop-pos-smaller
loop-pos-smaller c =
    let l = rw c.in-Node.is at c.in_ok-c.ensures in
    omega (arith, l.after, c.loop-pos-test.true)

pub loop-pos-preserved : goal.loop-pos-preserved
loop-pos-preserved c =
    step c.loop-pos.invariant _ c.loop-pos-test.true (outer_node c.args.src.now _ c.loop-pos.pos _) _
    (rw c.in-Node.is at c.in_ok-c.ensures)

pub returns-in-Nothing : goal.returns-in-Nothing
returns-in-Nothing c =
    idle c.loop-pos.invariant _ c.loop-pos-test.true (outer_node c.args.src.now _ c.loop-pos.pos _) _
    (rw c.in-Nothing.is at c.in_ok-c.ensures)

pub returns-in_err-c : goal.returns-in_err-c
returns-in_err-c c =
    rw (handed_on _ c.from_residual.ensures) (fail_node c.loop-pos.invariant _ c.loop-pos-test.true (outer_node c.args.src.now _ c.loop-pos.pos _) _ _
    c.in_err-c.ensures)

pub returns : goal.returns
returns c =
    out c.loop-pos.invariant c.loop-pos-test.false
