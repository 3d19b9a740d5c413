-- `put_rgb` writes `#` and the three channels, one after the other.
use native.Mathlib.Omega.{arith}
use lib.ListN.{length-set}
use Rattle.scan.proofs.Stores.{appended_kept}
use Rattle.colors.proofs.Writing.{hex-length, rgb_put}
use Rattle.colors.proofs.write.put_rgb.Goals as goal

pub put_digits-green-requires : goal.put_digits-green-requires
put_digits-green-requires c =
    (omega (arith, length-set c.args.out.now c.args.at 35), omega arith, omega arith)

pub put_digits-blue-requires : goal.put_digits-blue-requires
put_digits-blue-requires c = (
  omega (
    arith,
    c.requires,
    length-set c.args.out.now c.args.at 35,
    c.put_digits-green.ensures.next,
    appended_kept
        c.put_digits-green.ensures,
    hex-length c.args.c.r,
  ),
  omega arith,
  omega arith,
)

pub put_digits-requires : goal.put_digits-requires
put_digits-requires c = (
  omega (
    arith,
    c.requires,
    length-set c.args.out.now c.args.at 35,
    c.put_digits-green.ensures.next,
    appended_kept
        c.put_digits-green.ensures,
    hex-length c.args.c.r,
    c.put_digits-blue.ensures.next,
    appended_kept c.put_digits-blue.ensures,
    hex-length c.args.c.g,
  ),
  omega arith,
  omega arith,
)

pub returns : goal.returns
returns c =
    rgb_put c.args.c (omega (arith, c.requires)) c.put_digits-green.ensures c.put_digits-blue.ensures c.put_digits.ensures
