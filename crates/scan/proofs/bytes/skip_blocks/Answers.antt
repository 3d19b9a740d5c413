use Prim.Native.Nat.{◌+◌}
use mathlib.Core.Path.{refl}
use native.Mathlib.Omega.{arith}
use Rattle.scan.proofs.Runs.{skips_more}
use Rattle.scan.proofs.bytes.skip_blocks.Goals as goal

pub loop-i-init : goal.loop-i-init
loop-i-init c =
    record { after = omega arith; within = omega arith; same = refl }

pub returns-then-has_byte : goal.returns-then-has_byte
returns-then-has_byte c =
    c.loop-i.invariant

pub loop-i-preserved : goal.loop-i-preserved
loop-i-preserved c =
    skips_more _ c.args.src.now _ c.loop-i.i (c.loop-i.i + 16) (omega arith) (omega arith) c.loop-i.invariant
    (c.has_byte.ensures c.if-has_byte.false)

pub returns : goal.returns
returns c =
    c.loop-i.invariant
