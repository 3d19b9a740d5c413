-- `append_rgba` writes the colour where nine bytes are left.
use native.Mathlib.Omega.{arith}
use Rattle.scan.proofs.Stores.{appended_kept}
use Rattle.colors.proofs.Writing.{rgb_length, rgba-length, rgba-put}
use borrow.Author.Rules.{rules}
use Rattle.colors.proofs.write.append_rgba.Goals as goal

pub returns-then-out-at-lt9 : goal.returns-then-out-at-lt9
returns-then-out-at-lt9 c =
    (omega (arith, rgba-length c.args.c), search rules)

pub put_digits-requires : goal.put_digits-requires
put_digits-requires c = (
  omega (
    arith,
    c.requires,
    c.if-out-at-lt9.false,
    c.put_rgb-alpha.ensures.next,
    appended_kept c.put_rgb-alpha.ensures,
    rgb_length
        c.args.c,
  ),
  omega arith,
  omega arith,
)

pub returns : goal.returns
returns c =
    rgba-put c.args.c c.put_rgb-alpha.ensures c.put_digits.ensures
