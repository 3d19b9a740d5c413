use Prim.Native.Nat.{◌+◌}
use mathlib.Core.Path.{refl}
use native.Mathlib.Omega.{arith}
use borrow.Author.Tests.{not-false}
use Rattle.scan.proofs.Runs.{skips_more}
use Rattle.scan.proofs.bytes.skip_runs.Goals as goal

pub loop-i-init : goal.loop-i-init
loop-i-init c =
    record { after = omega arith; within = omega arith; same = refl }

pub returns-then-not-is_run : goal.returns-then-not-is_run
returns-then-not-is_run c =
    c.loop-i.invariant

pub loop-i-preserved : goal.loop-i-preserved
loop-i-preserved c =
    skips_more _ c.args.src.now _ c.loop-i.i (c.loop-i.i + 16) (omega arith) (omega arith) c.loop-i.invariant (c.is_run.ensures
    (not-false _ c.if-not-is_run.false-raw))

pub returns : goal.returns
returns c =
    c.loop-i.invariant
