-- `font_of` has the family that `find` answers.
use mathlib.Core.Path.{sym}
use native.Mathlib.Omega.{arith}
use Rattle.styling.proofs.Attributes.{found-valued, none-valued}
use Rattle.styling.proofs.Parted.{parted}
use Rattle.styling.proofs.fonts.font_of.Goals as goal

pub returns-in-Some : goal.returns-in-Some
returns-in-Some c =
    λ l y. let x = rw c.in-Some.is at (c.find.ensures.of_rows l y) in
    record { family_is = sym (found-valued x); size_is = rw (c.is_some-has_size.ensures, c.unwrap_or-size.ensures) (parted c.args.size _); within = x.within }

pub returns-in-None : goal.returns-in-None
returns-in-None c =
    λ l y. let x = rw c.in-None.is at (c.find.ensures.of_rows l y) in
    record { family_is = sym (none-valued x); size_is = rw (c.is_some-has_size.ensures, c.unwrap_or-size.ensures) (parted c.args.size _); within = omega arith }
