-- `append_rgb` writes the colour where seven bytes are left.
use native.Mathlib.Omega.{arith}
use Rattle.colors.proofs.Writing.{rgb_length}
use borrow.Author.Rules.{rules}
use Rattle.colors.proofs.write.append_rgb.Goals as goal

pub returns-then-out-at-lt7 : goal.returns-then-out-at-lt7
returns-then-out-at-lt7 c =
    (omega (arith, rgb_length c.args.c), search rules)

pub returns : goal.returns
returns c =
    c.put_rgb.ensures
