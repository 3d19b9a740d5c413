-- What the functions on sizes need: the scale of a size is no more than its decimal's. Assumes nothing.
use Prim.Native.Nat.{◌≤◌}
use mathlib.Core.Path.{◌≡◌}
use native.Mathlib.Omega.{arith}
use Rattle.decimals.specs.declared.read.Digits.{Digits}
use Rattle.decimals.specs.declared.size.Size.{Size}
use Rattle.decimals.specs.Size.{size_of}
use Rattle.decimals.proofs.Sizes.{reduced-is}

pub size_scale : (d : Digits) (z : Size) → z ≡ size_of d → d.scale ≤ 10 → z.scale ≤ 10
unfolding size_of
size_scale d z e h = rw e (omega (arith, (reduced-is d).nearer))
