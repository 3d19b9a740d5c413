use native.Mathlib.Omega.{arith}
use Rattle.ttml.proofs.Returning.{signed-more, signed_all}
use Rattle.ttml.proofs.back.all_signed.Goals as goal

pub loop-i-init : goal.loop-i-init
loop-i-init c =
    λ i l. absurd (omega arith)

pub loop-i-preserved : goal.loop-i-preserved
loop-i-preserved c =
    signed-more c.args.times.now c.loop-i.i c.loop-i.invariant c._time-1.given

pub returns : goal.returns
returns c =
    signed_all c.args.times.now _ c.loop-i.invariant (omega arith)
