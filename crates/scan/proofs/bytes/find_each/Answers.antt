use mathlib.Core.Path.{refl, ap, ◌∙◌}
use mathlib.Core.Bool.{not}
use native.Mathlib.Omega.{arith}
use borrow.Author.Tests.{eq-eqb, ne_eqb}
use Rattle.scan.specs.Bytes.{other}
use Rattle.scan.proofs.Runs.{run_on, ends-here, ends-out}
use Rattle.scan.proofs.bytes.find_each.Goals as goal

pub loop-i-init : goal.loop-i-init
loop-i-init c =
    (omega arith, omega arith, refl)

pub returns-then-src-i : goal.returns-then-src-i
returns-then-src-i c =
    ends-here (other c.args.b) c.args.src.now _ _ c.loop-i.invariant.1 c.loop-i.invariant.2 c.loop-i-test.true
    (ap not (eq-eqb _ _ c.if-src-i.true))

pub loop-i-preserved : goal.loop-i-preserved
loop-i-preserved c = (
  omega arith,
  omega arith,
  c.loop-i.invariant.2 ∙ run_on (other c.args.b) c.args.src.now _ c.loop-i-test.true
      (ap not (ne_eqb _ _ c.if-src-i.false)),
)

pub returns : goal.returns
returns c =
    ends-out (other c.args.b) c.args.src.now _ _ c.loop-i.invariant.1 c.loop-i.invariant.2
    c.loop-i.invariant.0 c.loop-i-test.false
