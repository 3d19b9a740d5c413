use native.Mathlib.Omega.{arith}
use Rattle.scan.proofs.bytes.has_byte.Goals as goal

pub returns : goal.returns
returns c =
    λ e k l h. c.loop-i.invariant e k l (omega arith)
