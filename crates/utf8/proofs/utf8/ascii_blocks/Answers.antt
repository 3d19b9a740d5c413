use Prim.Native.Nat.{◌+◌}
use native.Mathlib.Omega.{arith}
use Rattle.utf8.proofs.Utf8Laws.{bounded_up, bounded_join}
use Rattle.utf8.proofs.utf8.ascii_blocks.Goals as goal

pub loop-i-init : goal.loop-i-init
loop-i-init c =
    record { after = omega arith; within_text = omega arith; ascii = λ k l h. absurd (omega arith) }

pub returns-then-largest-gt127 : goal.returns-then-largest-gt127
returns-then-largest-gt127 c =
    c.loop-i.invariant

pub loop-i-preserved : goal.loop-i-preserved
loop-i-preserved c =
    record {
      after = omega arith;
      within_text = omega arith;
      ascii = bounded_join c.args.src.now _ (c.loop-i.i + 64) c.loop-i.i 0x7F c.loop-i.invariant.ascii (bounded_up
          c.args.src.now c.loop-i.i _ _ _ c.if-largest-gt127.false c.largest.ensures);
    }

pub returns : goal.returns
returns c =
    c.loop-i.invariant
