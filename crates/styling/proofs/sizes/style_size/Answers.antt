-- `style_size` reads the size from the attribute that `find` answers.
use mathlib.Core.Path.{sym, ◌∙◌}
use Rattle.styling.proofs.Attributes.{found-reading, none-reading}
use Rattle.styling.proofs.sizes.style_size.Goals as goal

pub returns-in-Some : goal.returns-in-Some
returns-in-Some c =
    λ l y. let x = rw c.in-Some.is at (c.find.ensures.of_rows l y) in rw c.value.ensures at c.of_leading.ensures ∙ sym (found-reading x _)

pub returns-in-None : goal.returns-in-None
returns-in-None c =
    λ l y. let x = rw c.in-None.is at (c.find.ensures.of_rows l y) in sym (none-reading x _)
